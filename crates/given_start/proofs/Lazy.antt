-- The lazy CSRs by their addresses and their keys.
use Rattle.std.proofs.Common.{◌≡◌, ℕ, zero, suc, ◌<◌, ◌≤◌, Bool, true, false, leb, ltb, ◌==◌, ◌&&◌, List, [], ◌∷◌, get_or, Some, refl, sym, ap, ◌∙◌, inl, inr, arith}
use Rattle.std.specs.Prelude.{nat_eq}
use Rattle.std.specs.List.{find, list_any}
use Rattle.std.proofs.lemmas.Bool.{cases_Bool, eqb-true, le-ltb, and_right, or_cases}
use Rattle.std.proofs.lemmas.List.{get_or-map}
use Rattle.std.proofs.lemmas.List.Folds.{Any-from_list_any}
use Rattle.rv_csr.specs.declared.table.LazyRegister.{LazyRegister}
use Rattle.rv_csr.specs.declared.table.LazyRegister.TheVariants.{Stvec}
use Rattle.rv_csr.specs.declared.table.Register.{Register}
use Rattle.rv_csr.specs.declared.table.Register.TheVariants.{Lazy}
use Rattle.rv_csr.specs.Table.{address_of, csr_key, lazy_csrs, lazy_registers, register_at, registers, csr_address, first_csr_key}
use Rattle.tpl_ast.specs.States.{is_key}

-- what a search finds passes
find_passes : {X : Type 0} (p : X → Bool) (xs : List X) (x : X) → find p xs ≡ Some x → p x ≡ true
find_passes p [] x e = cc
find_passes p (y ∷ ys) x e = elim (cases_Bool (p y)) [
  | inl on ↦ let same : y ≡ x = (let f = rw on at e in cc) in rw (← same) on
  | inr off ↦ find_passes p ys x (rw off at e)
]

pub has_address : (addr : ℕ) (register : Register) → register_at addr ≡ Some register → address_of register ≡ addr
has_address addr register e = eqb-true _ _ (find_passes (λ (r : Register). address_of r == addr) registers register e)

-- a lazy register stands at its address
at_address : (lazy : LazyRegister) → register_at (address_of (Lazy lazy)) ≡ Some (Lazy lazy)
at_address Stvec = refl
at_address _ = refl

address_small : (lazy : LazyRegister) → address_of (Lazy lazy) < 0x1000
address_small Stvec = omega arith
address_small _ = omega arith

pub address_positive : (lazy : LazyRegister) → 0 < address_of (Lazy lazy)
address_positive Stvec = omega arith
address_positive _ = omega arith

-- the key of a lazy CSR
pub record NamesCsr (key : ℕ) : Type 0 where
  pub lazy : LazyRegister
  pub is : key ≡ csr_key (address_of (Lazy lazy))
  pub at : register_at (csr_address key) ≡ Some (Lazy lazy)
  pub from : first_csr_key ≤ key
  pub below : key < 0x2000

named : (key : ℕ) (lazy : LazyRegister) → key ≡ csr_key (address_of (Lazy lazy)) → NamesCsr key
named key lazy is =
    let sum : key ≡ csr_key (address_of (Lazy lazy)) = is in
    let back : csr_address key ≡ address_of (Lazy lazy) = omega (arith, sum) in
    record {
      lazy = lazy;
      is = is;
      at = ap (λ (n : ℕ). register_at n) back ∙ at_address lazy;
      from = omega (arith, sum);
      below = omega (arith, sum, address_small lazy);
    }

-- the key of a place that is no register is that of a lazy CSR
pub lazy_of : (key : ℕ) → 32 ≤ key → is_key key ≡ true → NamesCsr key
lazy_of key large is = elim (or_cases (leb 1 key && ltb key 32) (list_any (λ (addr : ℕ). nat_eq key (csr_key addr)) lazy_csrs) is) [
  | inl small ↦ (let none : (leb 1 key && ltb key 32) ≡ false = and_right _ _ (le-ltb key 32 large) in absurd (differ (sym small ∙ none)))
  | inr one ↦
      let a = Any-from_list_any (λ (addr : ℕ). nat_eq key (csr_key addr)) lazy_csrs one in
      let lazy : LazyRegister = get_or lazy_registers a.0 Stvec in
      let at : get_or lazy_csrs a.0 a.1 ≡ a.1 = a.3 in
      let address : get_or lazy_csrs a.0 a.1 ≡ address_of (Lazy lazy) = get_or-map (λ (r : LazyRegister). address_of (Lazy r)) lazy_registers a.0 Stvec a.1 a.2 in
      named key lazy (eqb-true _ _ a.4 ∙ ap (λ (n : ℕ). csr_key n) (sym at ∙ address))
]
  where
    differ : true ≡ false → ⊥
    differ e = cc

pub key_positive : (key : ℕ) → is_key key ≡ true → 1 ≤ key
key_positive zero is = absurd (cc is)
key_positive (suc key) is = omega arith
