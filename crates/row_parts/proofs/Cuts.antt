-- Ranges of blocks, and blocks in halves.
use Rattle.std.proofs.Common.{◌≡◌, ◌==◌, ℕ, ◌+◌, ◌-◌, ◌*◌, ◌/◌, ◌%◌, ◌^◌, ◌<◌, ◌≤◌, inl, inr, Bool, true, false, ◌&&◌, ◌||◌, nat_le, nat_lt, List, [], ◌∷◌, ◌++◌, bit_and, refl, sym, ap, ◌∙◌, eqb-true, arith}
use Rattle.std.proofs.lemmas.List.Folds.{list_any-append}
use Rattle.std.proofs.lemmas.Bool.{cases_lt, eq-eqb}
use Rattle.std.proofs.lemmas.Nat.{and_mask, pow_pos, pow-add, mod_below, mod-pow-add}
use Rattle.std.proofs.lemmas.Nat.Bits.{and_high}
use Rattle.std.proofs.Math.Nat.{mod-add-div', add-mod_right}
use Rattle.std.proofs.Math.Pow.{mod-mod-pow}
use Rattle.std.specs.List.{filter}
use Rattle.dom_set.specs.Elements.{elements_of, is_in, is_within}
use Rattle.dom_set.specs.Laws.{ElementsPass, IsInTests}
use Rattle.row_parts.specs.Internal.Blocks.{is_in_block, AllPass, NonePass}
use Rattle.row_parts.proofs.Members.{common, is_in-elements_of, one_step, same}

in_block : (start d y : ℕ) → (nat_le start y && nat_lt y (start + d)) ≡ true → (start ≤ y) × (y < start + d)
in_block start d y h = grind arith

block_in : (start d y : ℕ) → start ≤ y → y < start + d → (nat_le start y && nat_lt y (start + d)) ≡ true
block_in start d y h k = grind arith

-- two multiples of d that are not the same are d apart
pub apart : (q s d : ℕ) → q < s → q * d + d ≤ s * d
apart q s d less =
    let is : s ≡ q + 1 + (s - q - 1) = omega (arith, less) in
    let times : s * d ≡ (q + 1 + (s - q - 1)) * d = ap (λ (n : ℕ). n * d) is in
    omega (arith, times)

one_block : (q s d r start : ℕ) → start ≡ s * d → r < d → start ≤ q * d + r → q * d + r < start + d → q * d ≡ start
one_block q s d r start is small low high = elim (cases_lt q s) [
  | inl less ↦ absurd (omega (arith, apart q s d less, is, small, low, high))
  | inr more ↦ elim (cases_lt s q) [
    | inl above ↦ absurd (omega (arith, apart s q d above, is, small, low, high))
    | inr below ↦ (let e : q ≡ s = omega (arith, more, below) in ap (λ (n : ℕ). n * d) e ∙ sym is)
  ]
]

-- the pattern of a block's upper bits tells the block
pub pattern_test : (x start w b : ℕ) → b ≤ w → start % 2 ^ b ≡ 0 → (bit_and x (2 ^ w - 2 ^ b) == start) ≡ is_in_block start b (x % 2 ^ w)
pattern_test x start w b le aligned =
    let width : w - b + b ≡ w = omega (arith, le) in
    let q : ℕ = x / 2 ^ b % 2 ^ (w - b) in
    let bits : bit_and x (2 ^ w - 2 ^ b) ≡ q * 2 ^ b = ap (λ (n : ℕ). bit_and x (2 ^ n - 2 ^ b)) (sym width) ∙ and_high x (w - b) b in
    let low : x % 2 ^ w ≡ q * 2 ^ b + x % 2 ^ b = ap (λ (n : ℕ). x % 2 ^ n) (sym width) ∙ mod-pow-add x (w - b) b in
    let is : start ≡ start / 2 ^ b * 2 ^ b = omega (arith, mod-add-div' start (2 ^ b), aligned) in
    let small : x % 2 ^ b < 2 ^ b = mod_below x (2 ^ b) (pow_pos b) in
    same (bit_and x (2 ^ w - 2 ^ b) == start) (is_in_block start b (x % 2 ^ w))
    (λ t. let e : q * 2 ^ b ≡ start = sym bits ∙ eqb-true _ _ t in block_in start (2 ^ b) (x % 2 ^ w) (omega (arith, e, low)) (omega (arith, e, low, small)))
    (λ t. let p = in_block start (2 ^ b) (x % 2 ^ w) t in
    eq-eqb _ _ (bits ∙ one_block q (start / 2 ^ b) (2 ^ b) (x % 2 ^ b) start is small (omega (arith, p.0, low)) (omega (arith, p.1, low))))

or_false : (a : Bool) → (a || false) ≡ a
or_false true = refl
or_false false = refl

in_all : (test : ℕ → Bool) (start b y : ℕ) → AllPass test start b → is_in_block start b y ≡ (is_in_block start b y && test y)
in_all test start b y all = same _ _ (λ t. let p = in_block start (2 ^ b) y t in rw (t, all y p.0 p.1) refl) (λ t. grind arith)

-- a block as a range, by its last number
range_test : (start last b y : ℕ) → last + 1 ≡ start + 2 ^ b → (nat_le start y && nat_le y last) ≡ is_in_block start b y
range_test start last b y is = grind arith

-- a block of which all pass is one range more
pub with_all : (rs : List (ℕ × ℕ)) (test : ℕ → Bool) (y start last b : ℕ) → last + 1 ≡ start + 2 ^ b → AllPass test start b
    → is_within (rs ++ (start, last) ∷ []) y ≡ (is_within rs y || (is_in_block start b y && test y))
with_all rs test y start last b is all =
    list_any-append (λ (r : ℕ × ℕ). nat_le r.0 y && nat_le y r.1) rs ((start, last) ∷ [])
    ∙ ap (λ (c : Bool). is_within rs y || c) (or_false (nat_le start y && nat_le y last) ∙ range_test start last b y is ∙ in_all test start b y all)

no_both : (b t : Bool) → (b ≡ true → t ≡ false) → (b && t) ≡ false
no_both true t h = h refl
no_both false t h = refl

-- a block of which none passes is no range
pub with_none : (m : Bool) (test : ℕ → Bool) (start b y : ℕ) → NonePass test start b → m ≡ (m || (is_in_block start b y && test y))
with_none m test start b y none =
    sym (ap (λ (c : Bool). m || c) (no_both (is_in_block start b y) (test y) (λ t. let p = in_block start (2 ^ b) y t in none y p.0 p.1)) ∙ or_false m)

zero_mod : (d : ℕ) → 0 < d → 0 % d ≡ 0
zero_mod d some = omega arith

-- ---- halves

pub double : (b : ℕ) → 0 < b → 2 ^ b ≡ 2 ^ (b - 1) + 2 ^ (b - 1)
double b some = let is : b ≡ 1 + (b - 1) = omega (arith, some) in ap (λ (n : ℕ). 2 ^ n) is ∙ pow-add 2 1 (b - 1) ∙ omega arith

pub lower_aligned : (s b : ℕ) → 0 < b → s % 2 ^ b ≡ 0 → s % 2 ^ (b - 1) ≡ 0
lower_aligned s b some aligned =
    let is : b ≡ 1 + (b - 1) = omega (arith, some) in
    sym (mod-mod-pow s 1 (b - 1)) ∙ ap (λ (n : ℕ). s % 2 ^ n % 2 ^ (b - 1)) (sym is) ∙ ap (λ (n : ℕ). n % 2 ^ (b - 1)) aligned ∙ omega arith

pub upper_aligned : (s b : ℕ) → 0 < b → s % 2 ^ b ≡ 0 → (s + 2 ^ (b - 1)) % 2 ^ (b - 1) ≡ 0
upper_aligned s b some aligned = add-mod_right s (2 ^ (b - 1)) ∙ lower_aligned s b some aligned

parted : (l u w t m : Bool) → w ≡ (l || u) → ((m || (l && t)) || (u && t)) ≡ (m || (w && t))
parted l u w t m is = rw is (go l u t m)
  where
    go : (l u t m : Bool) → ((m || (l && t)) || (u && t)) ≡ (m || ((l || u) && t))
    go true true true true = refl
    go true true true false = refl
    go true true false true = refl
    go true true false false = refl
    go true false true true = refl
    go true false true false = refl
    go true false false true = refl
    go true false false false = refl
    go false true true true = refl
    go false true true false = refl
    go false true false true = refl
    go false true false false = refl
    go false false true true = refl
    go false false true false = refl
    go false false false true = refl
    go false false false false = refl

two_halves : (s d h y : ℕ) → d ≡ h + h → (nat_le s y && nat_lt y (s + d)) ≡ ((nat_le s y && nat_lt y (s + h)) || (nat_le (s + h) y && nat_lt y (s + h + h)))
two_halves s d h y is = grind arith

-- ranges of the lower half and then of the upper one
pub halved : (old mid new t : Bool) (s b half upper y : ℕ) → 2 ^ b ≡ 2 ^ half + 2 ^ half → upper ≡ s + 2 ^ half
    → mid ≡ (old || (is_in_block s half y && t)) → new ≡ (mid || (is_in_block upper half y && t)) → new ≡ (old || (is_in_block s b y && t))
halved old mid new t s b half upper y size is first second =
    second ∙ ap (λ (m : Bool). m || (is_in_block upper half y && t)) first
    ∙ ap (λ (n : ℕ). (old || (is_in_block s half y && t)) || (is_in_block n half y && t)) is
    ∙ parted (is_in_block s half y) (is_in_block (s + 2 ^ half) half y) (is_in_block s b y) t old (two_halves s (2 ^ b) (2 ^ half) y size)

-- the block of all numbers below a power
pub whole : (t : Bool) (w x : ℕ) → (false || (is_in_block 0 w (x % 2 ^ w) && t)) ≡ t
whole t w x = ap (λ (b : Bool). b && t) (block_in 0 (2 ^ w) (x % 2 ^ w) (omega arith) (omega (arith, mod_below x (2 ^ w) (pow_pos w))))

-- the numbers of a set whose lowest bits are in the ranges of blocks
pub chosen_is : ElementsPass → IsInTests → (rs : List (ℕ × ℕ)) (low passing set s : List ℕ) (test : ℕ → Bool) (w mask x : ℕ) → x < 2 ^ 32 → 2 ^ w ≤ 2 ^ 32 → mask ≡ 2 ^ w - 1
    → s ≡ filter (is_in passing) set → passing ≡ elements_of (λ v. is_in low (bit_and v mask)) → low ≡ elements_of (λ v. v % 1 == 0 && is_within rs v)
    → ((y : ℕ) → is_within rs y ≡ (false || (is_in_block 0 w y && test y))) → is_in s x ≡ (is_in set x && test (x % 2 ^ w))
chosen_is pass tests rs low passing set s test w mask x small words mask_is s_is passing_is low_is within =
    let y : ℕ = x % 2 ^ w in
    let bits : bit_and x mask ≡ y = ap (bit_and x) mask_is ∙ and_mask x w in
    let less : y < 2 ^ w = mod_below x (2 ^ w) (pow_pos w) in
    let there : is_in low (bit_and x mask) ≡ test y =
    ap (is_in low) bits
    ∙ ap (λ (vs : List ℕ). is_in vs y) low_is
    ∙ is_in-elements_of pass tests (λ v. v % 1 == 0 && is_within rs v) y (omega (arith, less, words))
    ∙ one_step y (is_within rs y)
    ∙ within y
    ∙ whole (test y) w x in
    ap (λ (vs : List ℕ). is_in vs x) s_is
    ∙ ap (λ (vs : List ℕ). is_in (filter (is_in vs) set) x) passing_is
    ∙ common pass tests (λ v. is_in low (bit_and v mask)) set x small
    ∙ ap (λ (b : Bool). is_in set x && b) there

pub low_aligned : (s b k : ℕ) → k ≤ b → s % 2 ^ b ≡ 0 → s % 2 ^ k ≡ 0
low_aligned s b k le aligned =
    let is : b ≡ (b - k) + k = omega (arith, le) in
    sym (mod-mod-pow s (b - k) k) ∙ ap (λ (n : ℕ). s % 2 ^ n % 2 ^ k) (sym is) ∙ ap (λ (n : ℕ). n % 2 ^ k) aligned ∙ zero_mod (2 ^ k) (pow_pos k)
