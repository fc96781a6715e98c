-- Numbers as keys.
use Rattle.std.proofs.Common.{◌≡◌, ℕ, eqb, refl, sym, inl, inr, arith}
use Rattle.std.specs.BTreeMap.{is_at}
use Rattle.std.specs.Ordering.{nat_cmp}
use Rattle.std.proofs.lemmas.Bool.{cases_order, eq-eqb, ne_eqb, lt-ltb, le-ltb}

-- a number is at a key that is the same number
pub is_at_number : (k n : ℕ) → is_at (nat_cmp k) n ≡ eqb n k
is_at_number k n = elim (cases_order k n) [
  | inl same ↦ rw (le-ltb k n (omega (arith, same)), eq-eqb k n same, eq-eqb n k (sym same)) refl
  | inr apart ↦ elim apart [
    | inl below ↦ rw (lt-ltb k n below, ne_eqb n k (λ e. absurd (omega (arith, e, below)))) refl
    | inr above ↦ rw (le-ltb k n (omega (arith, above)), ne_eqb k n (λ e. absurd (omega (arith, e, above))), ne_eqb n k (λ e. absurd (omega (arith, e, above)))) refl
  ]
]
