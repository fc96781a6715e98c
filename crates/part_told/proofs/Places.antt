-- The known places of a hart have the form of a certificate's.
use Rattle.std.proofs.Common.{◌≡◌, ℕ, ◌+◌, ◌<◌, ◌≤◌, true, ltb, List, [], ◌∷◌, ◌++◌, length, drop, Option, Some, None, refl, ap, ◌∙◌, subst, arith}
use Rattle.std.specs.Prelude.{IfSome}
use Rattle.std.specs.List.{AllByRecursion}
use Rattle.std.proofs.lemmas.Bool.{le-leb, lt-ltb, or_right}
use Rattle.rv_csr.specs.declared.table.LazyRegister.{LazyRegister}
use Rattle.rv_csr.specs.declared.table.Register.{Register}
use Rattle.rv_csr.specs.declared.table.Register.TheVariants.{Sstatus, Satp, Mstatus, Medeleg, Mhartid, Lazy}
use Rattle.rv_csr.specs.Table.{csr_key, csr_address, is_legal, is_legal_at, is_legal_for, register_at}
use Rattle.rv_csr.specs.State.{CsrValues, AreLegalLazy, known_in, lazy_value, lazy_value_at}
use Rattle.tpl_ast.specs.States.{ArePlaces, is_key, is_legal_place}
use Rattle.part_machine.specs.Whole.{Bare}
use Rattle.part_told.specs.Finishing.{AreSmall, known_one, known_from, known_csrs, csr_addresses, places_in}

-- the same from an earlier number on
places_earlier : (low from : ℕ) (es : List (ℕ × ℕ)) → low ≤ from → ArePlaces from es → ArePlaces low es
places_earlier low from [] l are = tt
places_earlier low from (e ∷ es) l are = (omega (arith, l, are.0), are.1, are.2, are.3)

register_key : (n : ℕ) → 1 ≤ n → n < 32 → is_key n ≡ true
register_key n some small = rw (le-leb 1 n some, lt-ltb n 32 small) refl

-- ---- CSRs

-- keys of lazy CSRs that ascend from a number on
abbrev AreCsrs : ℕ → List ℕ → Type 0
AreCsrs from [] = Unit {0}
AreCsrs from (a ∷ addrs) = (from ≤ csr_key a) × (is_key (csr_key a) ≡ true) × AreCsrs (csr_key a + 1) addrs

ascend : AreCsrs 32 csr_addresses
ascend = (omega arith, refl, (omega arith, refl, (omega arith, refl, (omega arith, refl, (omega arith, refl, (omega arith, refl, (omega arith, refl, (omega arith, refl, (omega arith, refl, (omega arith, refl, tt))))))))))

csr_places : (from : ℕ) (addrs : List ℕ) (csrs : CsrValues) → AreCsrs from addrs → AreSmall (known_csrs addrs csrs) → ArePlaces from (known_csrs addrs csrs)
csr_places from [] csrs are small = tt
csr_places from (a ∷ addrs) csrs are small = go (lazy_value_at csrs a) (csr_places (csr_key a + 1) addrs csrs are.2) small
  where
    go : (o : Option ℕ) → (AreSmall (known_csrs addrs csrs) → ArePlaces (csr_key a + 1) (known_csrs addrs csrs)) → AreSmall (known_one (csr_key a) o ++ known_csrs addrs csrs) → ArePlaces from (known_one (csr_key a) o ++ known_csrs addrs csrs)
    go None rest words = places_earlier from (csr_key a + 1) (known_csrs addrs csrs) (omega (arith, are.0)) (rest words)
    go (Some v) rest words = (are.0, are.1, words.0, rest words.1)

-- ---- registers before others

register_places : (n : ℕ) (os : List (Option ℕ)) (rest : List (ℕ × ℕ)) → 1 ≤ n → n + length os ≤ 32 → AreSmall (known_from n os ++ rest) → ArePlaces 32 rest → ArePlaces n (known_from n os ++ rest)
register_places n [] rest some fits small later = places_earlier n 32 rest (omega (arith, fits)) later
register_places n (None ∷ os) rest some fits small later = places_earlier n (n + 1) (known_from (n + 1) os ++ rest) (omega arith) (register_places (n + 1) os rest (omega arith) (omega (arith, fits)) small later)
register_places n (Some v ∷ os) rest some fits small later = (omega arith, register_key n some (omega (arith, fits)), small.0, register_places (n + 1) os rest (omega arith) (omega (arith, fits)) small.1 later)

right_small : (xs ys : List (ℕ × ℕ)) → AreSmall (xs ++ ys) → AreSmall ys
right_small [] ys small = small
right_small (x ∷ xs) ys small = right_small xs ys small.1

all_but_first : (os : List (Option ℕ)) → length os ≡ 32 → length (drop 1 os) ≡ 31
all_but_first [] size = absurd (omega (arith, size))
all_but_first (o ∷ os) size = omega (arith, size)

pub are_places : (b : Bare) → length b.regs ≡ 32 → AreSmall (places_in b) → ArePlaces 0 (places_in b)
are_places b size small =
    places_earlier 0 1 (places_in b) (omega arith)
    (register_places 1 (drop 1 b.regs) (known_csrs csr_addresses b.csrs) (omega arith) (omega (arith, all_but_first b.regs size)) small
    (csr_places 32 csr_addresses b.csrs ascend (right_small (known_from 1 (drop 1 b.regs)) (known_csrs csr_addresses b.csrs) small)))

-- ---- legal values

-- a value of a lazy CSR is legal
legal_value : (csrs : CsrValues) (a v : ℕ) → AreLegalLazy csrs.lazy → lazy_value_at csrs a ≡ Some v → is_legal_at a v ≡ true
legal_value csrs a v legal e = go (register_at a) e
  where
    one : (r : LazyRegister) (o : Option ℕ) → o ≡ Some v → IfSome o (λ n. is_legal (Lazy r) n ≡ true) → is_legal (Lazy r) v ≡ true
    one r None e is = absurd (cc e)
    one r (Some n) e is = let same : n ≡ v = cc e in subst (λ (m : ℕ). is_legal (Lazy r) m ≡ true) same is

    go : (o : Option Register) → known_in csrs o ≡ Some v → is_legal_for o v ≡ true
    go None e = absurd (cc e)
    go (Some Sstatus) e = absurd (cc e)
    go (Some Satp) e = absurd (cc e)
    go (Some Mstatus) e = absurd (cc e)
    go (Some Medeleg) e = absurd (cc e)
    go (Some Mhartid) e = absurd (cc e)
    go (Some (Lazy r)) e = one r (lazy_value csrs r) e (legal.legal r)

legal_csr : (csrs : CsrValues) (a v : ℕ) → AreLegalLazy csrs.lazy → lazy_value_at csrs a ≡ Some v → is_legal_place (csr_key a, v) ≡ true
legal_csr csrs a v legal e =
    let address : csr_address (csr_key a) ≡ a = omega arith in
    or_right (ltb (csr_key a) 32) (is_legal_at (csr_address (csr_key a)) v) (ap (λ (n : ℕ). is_legal_at n v) address ∙ legal_value csrs a v legal e)

legal_csrs : (addrs : List ℕ) (csrs : CsrValues) → AreLegalLazy csrs.lazy → AllByRecursion (λ e. is_legal_place e ≡ true) (known_csrs addrs csrs)
legal_csrs [] csrs legal = tt
legal_csrs (a ∷ addrs) csrs legal = go (lazy_value_at csrs a) refl (legal_csrs addrs csrs legal)
  where
    go : (o : Option ℕ) → lazy_value_at csrs a ≡ o → AllByRecursion (λ e. is_legal_place e ≡ true) (known_csrs addrs csrs) → AllByRecursion (λ e. is_legal_place e ≡ true) (known_one (csr_key a) o ++ known_csrs addrs csrs)
    go None e rest = rest
    go (Some v) e rest = (legal_csr csrs a v legal e, rest)

legal_registers : (n : ℕ) (os : List (Option ℕ)) (rest : List (ℕ × ℕ)) → n + length os ≤ 32 → AllByRecursion (λ e. is_legal_place e ≡ true) rest → AllByRecursion (λ e. is_legal_place e ≡ true) (known_from n os ++ rest)
legal_registers n [] rest fits later = later
legal_registers n (None ∷ os) rest fits later = legal_registers (n + 1) os rest (omega (arith, fits)) later
legal_registers n (Some v ∷ os) rest fits later = (rw (lt-ltb n 32 (omega (arith, fits))) refl, legal_registers (n + 1) os rest (omega (arith, fits)) later)

pub are_legal : (b : Bare) → length b.regs ≡ 32 → AreLegalLazy b.csrs.lazy → AllByRecursion (λ e. is_legal_place e ≡ true) (places_in b)
are_legal b size legal =
    legal_registers 1 (drop 1 b.regs) (known_csrs csr_addresses b.csrs) (omega (arith, all_but_first b.regs size)) (legal_csrs csr_addresses b.csrs legal)
