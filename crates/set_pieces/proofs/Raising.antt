-- Patterns of numbers a power of two apart, raised and lowered.
use Rattle.std.proofs.Common.{◌≡◌, ℕ, ◌+◌, ◌-◌, ◌*◌, ◌/◌, ◌%◌, ◌^◌, ◌<◌, ◌≤◌, inl, inr, eqb, bit_and, sym, ap, ◌∙◌, arith}
use Rattle.std.proofs.lemmas.Bool.{cases_lt, eqb-true, eq-eqb}
use Rattle.std.proofs.lemmas.Bool.Decides.{Decides-eqb, same_from_decides}
use Rattle.std.proofs.lemmas.Nat.{pow_pos, pow-add, pow_below, and_assoc, and_mask, mod-mul-add}
use Rattle.std.proofs.Math.Nat.{add-mod, add-mul, add-mul-mod_self_left, add-mul-mod_self_right}
use Rattle.std.specs.Int.Bits.{and_self}
use lib.Pow.{mod-mod-pow}

-- what is cut to a mask is within it
pub cut_within : (n m : ℕ) → bit_and (bit_and n m) m ≡ bit_and n m
cut_within n m = and_assoc m n m ∙ ap (bit_and n) (and_self m)

fits_32 : (k : ℕ) → 2 ^ k - 1 < 2 ^ 32 → k ≤ 32
fits_32 k lt = elim (cases_lt 32 k) [
  | inl above ↦ absurd (omega (arith, pow_below 32 k above))
  | inr within ↦ within
]

-- the low bits of a number of 32 bits
wrapped : (n k : ℕ) → k ≤ 32 → n % 2 ^ 32 % 2 ^ k ≡ n % 2 ^ k
wrapped n k le = let is : (32 - k) + k ≡ 32 = omega arith in ap (λ (m : ℕ). n % 2 ^ m % 2 ^ k) (sym is) ∙ mod-mod-pow n (32 - k) k

turns_round : (n k : ℕ) → k ≤ 32 → (n + 2 ^ 32) % 2 ^ k ≡ n % 2 ^ k
turns_round n k le =
    let is : (32 - k) + k ≡ 32 = omega arith in
    ap (λ (m : ℕ). (n + 2 ^ m) % 2 ^ k) (sym is) ∙ ap (λ (m : ℕ). (n + m) % 2 ^ k) (pow-add 2 (32 - k) k) ∙ add-mul-mod_self_right n (2 ^ (32 - k)) (2 ^ k)

same_sum : (s a b e : ℕ) → a % s ≡ b % s → (a + e) % s ≡ (b + e) % s
same_sum s a b e h = add-mod a e s ∙ ap (λ (n : ℕ). (n + e % s) % s) h ∙ sym (add-mod b e s)

turned_back : (s a e : ℕ) → 0 < s → (a + e + (s - e % s)) % s ≡ a % s
turned_back s a e pos =
    let is : a + e + (s - e % s) ≡ a + s * (e / s + 1) = omega arith in
    ap (λ (n : ℕ). n % s) is ∙ add-mul-mod_self_left a s (e / s + 1)

same_part : (s a b e : ℕ) → 0 < s → (a + e) % s ≡ (b + e) % s → a % s ≡ b % s
same_part s a b e pos h = sym (turned_back s a e pos) ∙ same_sum s (a + e) (b + e) (s - e % s) h ∙ turned_back s b e pos

-- sums with one number agree as the numbers do
sums_agree : (s a b e : ℕ) → 0 < s → eqb ((a + e) % s) ((b + e) % s) ≡ eqb (a % s) (b % s)
sums_agree s a b e pos = same_from_decides {P = a % s ≡ b % s} _ _
    ((λ t. same_part s a b e pos (eqb-true _ _ t)), (λ h. eq-eqb _ _ (same_sum s a b e h)))
    (Decides-eqb _ _)

-- numbers under the mask 2 ^ k - 1, and those as much above them
stepped : (k b e x : ℕ) → k ≤ 32 → bit_and b (2 ^ k - 1) ≡ b →
    eqb (bit_and (x + e) (2 ^ k - 1)) (bit_and ((b + e) % 2 ^ 32) (2 ^ k - 1)) ≡ eqb (bit_and x (2 ^ k - 1)) b
stepped k b e x le within =
    (λ i. eqb (and_mask (x + e) k i) ((and_mask ((b + e) % 2 ^ 32) k ∙ wrapped (b + e) k le) i))
    ∙ sums_agree (2 ^ k) x b e (pow_pos k)
    ∙ (λ i. eqb (sym (and_mask x k) i) ((sym (and_mask b k) ∙ within) i))

pub raised_test : (m k b d y : ℕ) → m ≡ 2 ^ k - 1 → m < 2 ^ 32 → bit_and b m ≡ b → d ≤ y →
    eqb (bit_and y m) (bit_and ((b + d) % 2 ^ 32) m) ≡ eqb (bit_and (y - d) m) b
raised_test m k b d y is lt within le =
    let back : (y - d) + d ≡ y = omega arith in
    let bound : k ≤ 32 = fits_32 k (omega (arith, is)) in
    rw back at (rw (sym is) at (stepped k b d (y - d) bound (rw is at within)))

pub lowered_test : (m k b d y : ℕ) → m ≡ 2 ^ k - 1 → m < 2 ^ 32 → d < 2 ^ 32 → bit_and b m ≡ b →
    eqb (bit_and y m) (bit_and ((b + (2 ^ 32 - d)) % 2 ^ 32) m) ≡ eqb (bit_and (y + d) m) b
lowered_test m k b d y is lt small within =
    let bound : k ≤ 32 = fits_32 k (omega (arith, is)) in
    let round : y + d + (2 ^ 32 - d) ≡ y + 2 ^ 32 = omega arith in
    let same : bit_and y (2 ^ k - 1) ≡ bit_and (y + d + (2 ^ 32 - d)) (2 ^ k - 1) =
    and_mask y k ∙ sym (ap (λ (n : ℕ). n % 2 ^ k) round ∙ turns_round y k bound) ∙ sym (and_mask (y + d + (2 ^ 32 - d)) k) in
    rw (sym is) at (ap (λ (n : ℕ). eqb n (bit_and ((b + (2 ^ 32 - d)) % 2 ^ 32) (2 ^ k - 1))) same ∙ stepped k b (2 ^ 32 - d) (y + d) bound (rw is at within))

-- the low bits of 64 ones
pub ones_cut : (k : ℕ) → k < 32 → (2 ^ 64 - 1) % 2 ^ k ≡ 2 ^ k - 1
ones_cut k lt =
    let whole : (64 - k) + k ≡ 64 = omega arith in
    let product : 2 ^ 64 ≡ 2 ^ (64 - k) * 2 ^ k = ap (λ (n : ℕ). 2 ^ n) (sym whole) ∙ pow-add 2 (64 - k) k in
    let one_more : 2 ^ (64 - k) ≡ (2 ^ (64 - k) - 1) + 1 = omega (arith, pow_pos (64 - k)) in
    let is : 2 ^ 64 - 1 ≡ (2 ^ (64 - k) - 1) * 2 ^ k + (2 ^ k - 1) =
    omega (arith, product ∙ ap (λ (n : ℕ). n * 2 ^ k) one_more ∙ add-mul (2 ^ (64 - k) - 1) 1 (2 ^ k), pow_pos k) in
    ap (λ (n : ℕ). n % 2 ^ k) is ∙ mod-mul-add (2 ^ (64 - k) - 1) (2 ^ k) (2 ^ k - 1) (omega (arith, pow_pos k))
