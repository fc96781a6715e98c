-- Powers of two, and the numbers that are multiples of one.
use Rattle.std.proofs.Common.{◌≡◌, ℕ, suc, ◌+◌, ◌-◌, ◌*◌, ◌/◌, ◌%◌, ◌^◌, ◌<◌, ◌≤◌, inl, inr, Bool, true, false, ◌&&◌, eqb, leb, refl, sym, ap, ◌∙◌, arith}
use Rattle.std.proofs.lemmas.Bool.{cases_lt, eqb-true, leb-true, le-leb, and_parts, and_from, false_from_ne_true}
use Rattle.std.proofs.lemmas.Nat.{pow_pos, mod-pow-add, mod_low, mod_below}
use Rattle.std.proofs.Math.Nat.{pow-suc, mul-le-mul_left, mul-mod_left}

pub pow_twice : (k : ℕ) → 2 ^ (k + 1) ≡ 2 ^ k + 2 ^ k
pow_twice k = let is : k + 1 ≡ suc k = omega arith in rw is (omega (arith, pow-suc 2 k))

-- two tests are one if each passes where the other does
pub same_tests : (a b : Bool) → (a ≡ true → b ≡ true) → (b ≡ true → a ≡ true) → a ≡ b
same_tests true b f g = sym (f refl)
same_tests false true f g = g refl
same_tests false false f g = refl

-- numbers that agree are a step apart
pub gap : (s x y : ℕ) → 0 < s → x % s ≡ y % s → x < y → x + s ≤ y
gap s x y pos same lt = elim (cases_lt (x / s) (y / s)) [
  | inl less ↦ omega (arith, mul-le-mul_left s less)
  | inr more ↦ omega (arith, mul-le-mul_left s more)
]

pub mod_down : (j k n : ℕ) → j ≤ k → n % 2 ^ k % 2 ^ j ≡ n % 2 ^ j
mod_down j k n le =
    let is : (k - j) + j ≡ k = omega arith in
    ap (λ (m : ℕ). n % 2 ^ m % 2 ^ j) (sym is) ∙ ap (λ (m : ℕ). m % 2 ^ j) (mod-pow-add n (k - j) j)
    ∙ mod_low (n / 2 ^ j % 2 ^ (k - j)) j (n % 2 ^ j) (mod_below n (2 ^ j) (pow_pos j))

-- ---- the multiples between two numbers

pub multiple_below : (s n : ℕ) → 0 < s → (n - n % s) % s ≡ 0
multiple_below s n pos = let is : n - n % s ≡ n / s * s = omega arith in ap (λ (m : ℕ). m % s) is ∙ mul-mod_left (n / s) s

-- first is `low` rounded up to a multiple of s, and last `high` rounded down to one
pub record IsRounded (s low high first last : ℕ) : Type 0 where
  pub first_is : first % s ≡ 0
  pub last_is : last % s ≡ 0
  pub from : low ≤ first
  pub to : last ≤ high
  pub near : first < low + s
  pub close : high < last + s

pub rounded : (s low high up down step low' high' : ℕ) → 0 < s → step ≡ s → low' ≡ low → high' ≡ high →
    up ≡ (low' + (step - 1)) % s → down ≡ high' % s → IsRounded s low high (low' + (step - 1) - up) (high' - down)
rounded s low high up down step low' high' pos step_is low_is high_is up_is down_is =
    rw (up_is, down_is, step_is, low_is, high_is) (record {
      first_is = multiple_below s (low + (s - 1)) pos;
      last_is = multiple_below s high pos;
      from = omega (arith, mod_below (low + (s - 1)) s pos);
      to = omega arith;
      near = omega (arith, mod_below (low + (s - 1)) s pos);
      close = omega (arith, mod_below high s pos);
    })

reached : (s low high first last x : ℕ) → 0 < s → IsRounded s low high first last → x % s ≡ 0 → low ≤ x → first ≤ x
reached s low high first last x pos r is from = elim (cases_lt x first) [
  | inl before ↦ (let far : x + s ≤ first = gap s x first pos (is ∙ sym r.first_is) before in absurd (omega (arith, r.near)))
  | inr at ↦ at
]

within : (s low high first last x : ℕ) → 0 < s → IsRounded s low high first last → x % s ≡ 0 → x ≤ high → x ≤ last
within s low high first last x pos r is to = elim (cases_lt last x) [
  | inl past ↦ (let far : last + s ≤ x = gap s last x pos (r.last_is ∙ sym is) past in absurd (omega (arith, r.close)))
  | inr at ↦ at
]

pub multiples_are : (s low high first last x : ℕ) → 0 < s → IsRounded s low high first last →
    ((leb first x && leb x last) && eqb (x % s) 0) ≡ (eqb (x % s) 0 && (leb low x && leb x high))
multiples_are s low high first last x pos r = same_tests _ _
    (λ h.
    let parts = and_parts (leb first x && leb x last) (eqb (x % s) 0) h in
    let ends = and_parts (leb first x) (leb x last) parts.0 in
    let from : first ≤ x = leb-true _ _ ends.0 in
    let to : x ≤ last = leb-true _ _ ends.1 in
    and_from _ _ parts.1 (and_from _ _ (le-leb low x (omega (arith, r.from))) (le-leb x high (omega (arith, r.to)))))
    (λ h.
    let parts = and_parts (eqb (x % s) 0) (leb low x && leb x high) h in
    let ends = and_parts (leb low x) (leb x high) parts.1 in
    let is : x % s ≡ 0 = eqb-true _ _ parts.0 in
    and_from _ _
    (and_from _ _ (le-leb first x (reached s low high first last x pos r is (leb-true _ _ ends.0)))
    (le-leb x last (within s low high first last x pos r is (leb-true _ _ ends.1))))
    parts.0)

pub no_multiples : (s low high first last x : ℕ) → 0 < s → IsRounded s low high first last → last < first →
    false ≡ (eqb (x % s) 0 && (leb low x && leb x high))
no_multiples s low high first last x pos r none = sym (false_from_ne_true _ (λ h.
    let parts = and_parts (eqb (x % s) 0) (leb low x && leb x high) h in
    let ends = and_parts (leb low x) (leb x high) parts.1 in
    let is : x % s ≡ 0 = eqb-true _ _ parts.0 in
    let from = reached s low high first last x pos r is (leb-true _ _ ends.0) in
    let to = within s low high first last x pos r is (leb-true _ _ ends.1) in
    omega arith))
