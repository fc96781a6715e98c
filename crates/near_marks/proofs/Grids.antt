-- Numbers that leave the same remainder.
use Rattle.std.proofs.Common.{◌≡◌, ℕ, ◌+◌, ◌-◌, ◌*◌, ◌/◌, ◌%◌, ◌^◌, ◌<◌, ◌≤◌, inl, inr, bit_and, sym, ap, ◌∙◌, arith}
use Rattle.std.proofs.lemmas.Bool.{cases_lt}
use Rattle.std.proofs.lemmas.Nat.{and_mask, mod-pow-add, mod_below, mod_low, pow_pos}
use Rattle.std.proofs.Math.Nat.{add-mod, add-mod_right, mod-add-mod, mul-le-mul_left, mul-mod_left}
use Rattle.near_marks.specs.Internal.Near.{IsNext}

-- those that differ are a step apart
pub gap : (s x y : ℕ) → 0 < s → x % s ≡ y % s → x < y → x + s ≤ y
gap s x y pos same lt = elim (cases_lt (x / s) (y / s)) [
  | inl less ↦ omega (arith, mul-le-mul_left s less)
  | inr more ↦ omega (arith, mul-le-mul_left s more)
]

pub nearest : (k x y : ℕ) → x % 2 ^ k ≡ y % 2 ^ k → x ≤ y → y < x + 2 ^ k → y ≡ x
nearest k x y same le near = elim (cases_lt x y) [
  | inl less ↦ absurd (omega (arith, gap (2 ^ k) x y (pow_pos k) same less))
  | inr more ↦ omega arith
]

-- sums of such numbers are such
pub added : (s a b c d : ℕ) → a % s ≡ b % s → c % s ≡ d % s → (a + c) % s ≡ (b + d) % s
added s a b c d one two = add-mod a c s ∙ ap (λ (n : ℕ). (n + c % s) % s) one ∙ ap (λ (n : ℕ). (b % s + n) % s) two ∙ sym (add-mod b d s)

pub stepped : (k a b step : ℕ) → step ≡ 2 ^ k → a % 2 ^ k ≡ b % 2 ^ k → (a + step) % 2 ^ k ≡ b % 2 ^ k
stepped k a b step is same = ap (λ (n : ℕ). (a + n) % 2 ^ k) is ∙ add-mod_right a (2 ^ k) ∙ same

-- so are differences
quotients : (s a b : ℕ) → 0 < s → a % s ≡ b % s → b ≤ a → (a - b) ≡ (a / s - b / s) * s
quotients s a b pos same le = elim (cases_lt (a / s) (b / s)) [
  | inl less ↦ absurd (omega (arith, mul-le-mul_left s less, mod_below a s pos, mod_below b s pos))
  | inr more ↦ (let whole : (a / s - b / s) + b / s ≡ a / s = omega arith in omega (arith, ap (λ (n : ℕ). n * s) whole))
]

pub multiple : (s a b : ℕ) → 0 < s → a % s ≡ b % s → b ≤ a → (a - b) % s ≡ 0
multiple s a b pos same le = ap (λ (n : ℕ). n % s) (quotients s a b pos same le) ∙ mul-mod_left (a / s - b / s) s

pub level : (s a b : ℕ) → (a - b) % s ≡ 0 → b ≤ a → a % s ≡ b % s
level s a b none le =
    let whole : a ≡ (a - b) + b = omega arith in
    let own : 0 + b ≡ b = omega arith in
    ap (λ (n : ℕ). n % s) whole ∙ sym (mod-add-mod (a - b) s b) ∙ ap (λ (n : ℕ). (n + b) % s) none ∙ ap (λ (n : ℕ). n % s) own

-- what is less than the distance to both is alike too
pub lowered : (s base a b : ℕ) → 0 < s → a % s ≡ b % s → b ≤ a → base ≤ b → (a - base) % s ≡ (b - base) % s
lowered s base a b pos same le from =
    let is : (a - base) - (b - base) ≡ a - b = omega arith in
    level s (a - base) (b - base) (ap (λ (n : ℕ). n % s) is ∙ multiple s a b pos same le) (omega arith)

pub mirrored : (s whole a b : ℕ) → 0 < s → a % s ≡ b % s → a ≤ b → b ≤ whole → (whole - a) % s ≡ (whole - b) % s
mirrored s whole a b pos same le to =
    let is : (whole - a) - (whole - b) ≡ b - a = omega arith in
    level s (whole - a) (whole - b) (ap (λ (n : ℕ). n % s) is ∙ multiple s b a pos (sym same) le) (omega arith)

-- numbers that are alike in more low bits are so in fewer
pub fewer : (j k a b : ℕ) → j ≤ k → a % 2 ^ k ≡ b % 2 ^ k → a % 2 ^ j ≡ b % 2 ^ j
fewer j k a b le same = sym (down a) ∙ ap (λ (n : ℕ). n % 2 ^ j) same ∙ down b where
  down : (n : ℕ) → n % 2 ^ k % 2 ^ j ≡ n % 2 ^ j
  down n =
      let is : (k - j) + j ≡ k = omega (arith, le) in
      ap (λ (m : ℕ). n % 2 ^ m % 2 ^ j) (sym is) ∙ ap (λ (m : ℕ). m % 2 ^ j) (mod-pow-add n (k - j) j)
      ∙ mod_low (n / 2 ^ j % 2 ^ (k - j)) j (n % 2 ^ j) (mod_below n (2 ^ j) (pow_pos j))

next_near : (low k from found : ℕ) → low ≤ found → from ≤ found → found < from + 2 ^ k → found % 2 ^ k ≡ low % 2 ^ k → IsNext low k from found
next_near low k from found above reached near same = record {
  above = above;
  reached = reached;
  same = same;
  first = λ n le from_n alike. elim (cases_lt n found) [
    | inl less ↦ absurd (omega (arith, gap (2 ^ k) n found (pow_pos k) (alike ∙ sym same) less, from_n, near))
    | inr more ↦ more
  ];
}

left_over : (n k step past : ℕ) → step ≡ 2 ^ k → past ≡ bit_and n (step - 1) → past ≡ n % 2 ^ k
left_over n k step past is past_is = past_is ∙ ap (λ (m : ℕ). bit_and n (m - 1)) is ∙ and_mask n k

pub next_at : (low k from step past : ℕ) → step ≡ 2 ^ k → past ≡ bit_and (from - low) (step - 1) → low ≤ from → past ≡ 0 → IsNext low k from from
next_at low k from step past is past_is le none =
    next_near low k from from le (omega arith) (omega (arith, pow_pos k)) (level (2 ^ k) from low (sym (left_over (from - low) k step past is past_is) ∙ none) le)

pub next_past : (low k from step past : ℕ) → step ≡ 2 ^ k → past ≡ bit_and (from - low) (step - 1) → low ≤ from → 0 < past → IsNext low k from (from + (step - past))
next_past low k from step past is past_is le some =
    let rest : past ≡ (from - low) % 2 ^ k = left_over (from - low) k step past is past_is in
    let below : past < 2 ^ k = omega (arith, rest, mod_below (from - low) (2 ^ k) (pow_pos k)) in
    let turns : from + (step - past) - low ≡ ((from - low) / 2 ^ k + 1) * 2 ^ k = omega (arith, rest, below, is, le) in
    next_near low k from (from + (step - past)) (omega arith) (omega arith) (omega (arith, is, some, below))
    (level (2 ^ k) (from + (step - past)) low (ap (λ (n : ℕ). n % 2 ^ k) turns ∙ mul-mod_left ((from - low) / 2 ^ k + 1) (2 ^ k)) (omega arith))
