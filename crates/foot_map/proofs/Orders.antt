-- The order of touches tells all of them apart.
use Rattle.std.proofs.Common.{◌≡◌, ℕ, zero, suc, ◌<◌, ◌≤◌, inl, inr, ◌⊎◌, Bool, true, false, ◌&&◌, cond, eqb, ltb, refl, sym, ap, ◌∙◌, arith}
use Rattle.std.specs.declared.cmp.Ordering.{Ordering}
use Rattle.std.specs.declared.cmp.Ordering.TheVariants.{Less, Equal, Greater}
use Rattle.std.specs.Cmp.{IsTotalOrder}
use Rattle.std.specs.Ordering.{nat_cmp, ordering_then, is_gt, is_eq, is_le}
use Rattle.std.proofs.lemmas.Bool.{and_parts, and_from, eqb-true, eq-eqb, ltb-true, ltb-false, eqb-false, true≢false}
use Rattle.std.proofs.lemmas.Bool.Decides.{nat_tests}
use Rattle.std.proofs.lemmas.Cmp.{nat_cmp_total, on_total, then_total}
use Rattle.rv_script.specs.declared.access.Role.{Role}
use Rattle.rv_script.specs.declared.access.Role.TheVariants.{Fetch, Walk, Load, Store}
use Rattle.foot_map.specs.declared.touch.Touch.{Touch}
use Rattle.foot_map.specs.Order.{rank, by_place}
use Rattle.foot_map.specs.Touches.{same_role, is_triple}

pub by_place_total : IsTotalOrder by_place
by_place_total = then_total (on_total (λ t. t.byte) nat_cmp_total) (then_total (on_total (λ t. t.hart) nat_cmp_total) (on_total (λ t. rank t.role) nat_cmp_total))

-- ---- roles
abbrev role_at : ℕ → Role
role_at zero = Fetch
role_at (suc zero) = Walk
role_at (suc (suc zero)) = Load
role_at (suc (suc (suc n))) = Store

role_again : (r : Role) → role_at (rank r) ≡ r
role_again Fetch = refl
role_again Walk = refl
role_again Load = refl
role_again Store = refl

pub same_rank : (r s : Role) → rank r ≡ rank s → r ≡ s
same_rank r s h = sym (role_again r) ∙ ap role_at h ∙ role_again s

pub same_role_is : (r s : Role) → same_role r s ≡ true → r ≡ s
same_role_is r s h = same_rank r s (eqb-true (rank r) (rank s) h)

pub same_role_refl : (r : Role) → same_role r r ≡ true
same_role_refl r = eq-eqb (rank r) (rank r) refl

-- ---- triples
abbrev pub triple : ℕ → ℕ → Role → Touch
triple b h r = record { byte = b; hart = h; role = r }

pub triple_is : (t : Touch) (b h : ℕ) (r : Role) → is_triple t b h r ≡ true → t ≡ triple b h r
triple_is t b h r is =
    let p = and_parts (eqb t.byte b) (eqb t.hart h && same_role t.role r) is in
    let q = and_parts (eqb t.hart h) (same_role t.role r) p.1 in
    ap (λ (n : ℕ). triple n t.hart t.role) (eqb-true t.byte b p.0)
    ∙ ap (λ (n : ℕ). triple b n t.role) (eqb-true t.hart h q.0)
    ∙ ap (λ (s : Role). triple b h s) (same_role_is t.role r q.1)

pub triple_refl : (t : Touch) → is_triple t t.byte t.hart t.role ≡ true
triple_refl t = and_from _ _ (eq-eqb t.byte t.byte refl) (and_from _ _ (eq-eqb t.hart t.hart refl) (same_role_refl t.role))

-- ---- the order
then_equal : (o p : Ordering) → is_eq (ordering_then o p) ≡ (is_eq o && is_eq p)
then_equal Less p = refl
then_equal Equal p = refl
then_equal Greater p = refl

cmp_equal : (m n : ℕ) → is_eq (nat_cmp m n) ≡ eqb m n
cmp_equal m n = go (ltb m n) (eqb m n) refl refl where
  go : (a b : Bool) → ltb m n ≡ a → eqb m n ≡ b → is_eq (cond a Less (cond b Equal Greater)) ≡ b
  go true true e f = absurd (let lt = ltb-true m n e in let is = eqb-true m n f in omega arith)
  go true false e f = refl
  go false true e f = refl
  go false false e f = refl

-- a comparison with a triple is equal where it is the triple
pub place_is : (t u : Touch) → is_eq (by_place t u) ≡ is_triple t u.byte u.hart u.role
place_is t u =
    then_equal (nat_cmp t.byte u.byte) (ordering_then (nat_cmp t.hart u.hart) (nat_cmp (rank t.role) (rank u.role)))
    ∙ ap (λ (b : Bool). is_eq (nat_cmp t.byte u.byte) && b) (then_equal (nat_cmp t.hart u.hart) (nat_cmp (rank t.role) (rank u.role)))
    ∙ (λ i. cmp_equal t.byte u.byte i && (cmp_equal t.hart u.hart i && cmp_equal (rank t.role) (rank u.role) i))

pub eqb_back : (m n : ℕ) → eqb m n ≡ eqb n m
eqb_back m n = grind (arith, nat_tests)

pub place_back : (t u : Touch) → is_eq (by_place t u) ≡ is_triple u t.byte t.hart t.role
place_back t u =
    place_is t u
    ∙ (λ i. eqb_back t.byte u.byte i && (eqb_back t.hart u.hart i && eqb_back (rank t.role) (rank u.role) i))

is_equal : (o : Ordering) → o ≡ Equal → is_eq o ≡ true
is_equal o e = ap is_eq e

pub place_exact : (t u : Touch) → by_place t u ≡ Equal → t ≡ u
place_exact t u e = triple_is t u.byte u.hart u.role (sym (place_is t u) ∙ is_equal (by_place t u) e)

-- what no greater means, number by number
then_upto : (o p : Ordering) → is_gt (ordering_then o p) ≡ false → (o ≡ Less) ⊎ ((o ≡ Equal) × (is_gt p ≡ false))
then_upto Less p h = inl refl
then_upto Equal p h = inr (refl, h)
then_upto Greater p h = absurd (true≢false h)

cmp_less : (m n : ℕ) → nat_cmp m n ≡ Less → m < n
cmp_less m n h = go (ltb m n) (eqb m n) refl h where
  go : (a b : Bool) → ltb m n ≡ a → cond a Less (cond b Equal Greater) ≡ Less → m < n
  go true b e k = ltb-true m n e
  go false true e k = absurd cc
  go false false e k = absurd cc

cmp_same : (m n : ℕ) → nat_cmp m n ≡ Equal → m ≡ n
cmp_same m n h = eqb-true m n (sym (cmp_equal m n) ∙ is_equal (nat_cmp m n) h)

cmp_upto : (m n : ℕ) → is_gt (nat_cmp m n) ≡ false → m ≤ n
cmp_upto m n h = go (ltb m n) (eqb m n) refl refl h where
  go : (a b : Bool) → ltb m n ≡ a → eqb m n ≡ b → is_gt (cond a Less (cond b Equal Greater)) ≡ false → m ≤ n
  go true b e f k = let lt = ltb-true m n e in omega arith
  go false true e f k = let is = eqb-true m n f in omega arith
  go false false e f k = absurd (true≢false k)

pub upto_parts : (t u : Touch) → is_gt (by_place t u) ≡ false
    → (t.byte < u.byte) ⊎ ((t.byte ≡ u.byte) × ((t.hart < u.hart) ⊎ ((t.hart ≡ u.hart) × (rank t.role ≤ rank u.role))))
upto_parts t u h = elim (then_upto (nat_cmp t.byte u.byte) (ordering_then (nat_cmp t.hart u.hart) (nat_cmp (rank t.role) (rank u.role))) h) [
  | inl less ↦ inl (cmp_less t.byte u.byte less)
  | inr same ↦ inr (
    cmp_same t.byte u.byte same.0,
    elim (then_upto (nat_cmp t.hart u.hart) (nat_cmp (rank t.role) (rank u.role)) same.1) [
      | inl less ↦ inl (cmp_less t.hart u.hart less)
      | inr even ↦ inr (cmp_same t.hart u.hart even.0, cmp_upto (rank t.role) (rank u.role) even.1)
    ],
  )
]

-- the first of all on a byte is no greater than what stands from the byte on
then_le : (o p : Ordering) → (o ≡ Less) ⊎ ((o ≡ Equal) × (is_le p ≡ true)) → is_le (ordering_then o p) ≡ true
then_le o p (inl h) = ap (λ (q : Ordering). is_le (ordering_then q p)) h
then_le o p (inr h) = ap (λ (q : Ordering). is_le (ordering_then q p)) h.0 ∙ h.1

cmp_cases : (m n : ℕ) → m ≤ n → (nat_cmp m n ≡ Less) ⊎ (nat_cmp m n ≡ Equal)
cmp_cases m n le = go (ltb m n) (eqb m n) refl refl where
  go : (a b : Bool) → ltb m n ≡ a → eqb m n ≡ b → (cond a Less (cond b Equal Greater) ≡ Less) ⊎ (cond a Less (cond b Equal Greater) ≡ Equal)
  go true b e f = inl refl
  go false true e f = inr refl
  go false false e f = absurd (let ge = ltb-false m n e in eqb-false m n f (omega arith))

cmp_le : (m n : ℕ) → m ≤ n → is_le (nat_cmp m n) ≡ true
cmp_le m n le = elim (cmp_cases m n le) [
  | inl less ↦ ap is_le less
  | inr same ↦ ap is_le same
]

lifted : (m n : ℕ) (p : Ordering) → m ≤ n → is_le p ≡ true → is_le (ordering_then (nat_cmp m n) p) ≡ true
lifted m n p le h = elim (cmp_cases m n le) [
  | inl less ↦ then_le (nat_cmp m n) p (inl less)
  | inr same ↦ then_le (nat_cmp m n) p (inr (same, h))
]

pub start_le : (byte : ℕ) (t : Touch) → byte ≤ t.byte → is_le (by_place (triple byte 0 Fetch) t) ≡ true
start_le byte t le = lifted byte t.byte _ le (lifted 0 t.hart _ (omega arith) (cmp_le 0 (rank t.role) (omega arith)))

-- and nothing else stands from it on
pub le_start : (byte : ℕ) (t : Touch) → is_le (by_place (triple byte 0 Fetch) t) ≡ true → byte ≤ t.byte
le_start byte t h = go (ltb byte t.byte) (eqb byte t.byte) refl refl h where
  go : (a b : Bool) → ltb byte t.byte ≡ a → eqb byte t.byte ≡ b
      → is_le (ordering_then (cond a Less (cond b Equal Greater)) (ordering_then (nat_cmp 0 t.hart) (nat_cmp 0 (rank t.role)))) ≡ true → byte ≤ t.byte
  go true b e f k = let lt = ltb-true byte t.byte e in omega arith
  go false true e f k = let is = eqb-true byte t.byte f in omega arith
  go false false e f k = absurd (true≢false (sym k))
