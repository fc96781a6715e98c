-- The bits of words of 64.
use Rattle.std.proofs.Common.{◌≡◌, ◌≢◌, ℕ, zero, suc, ◌+◌, ◌-◌, ◌*◌, ◌/◌, ◌%◌, ◌^◌, ◌<◌, ◌≤◌, inl, inr, Bool, true, false, cond, ◌&&◌, ◌||◌, not, eqb, ltb, min, max, bit_and, bit_or, List, length, get_or, take, drop, length-take, length-drop, mul_assoc, refl, sym, ap, ◌∙◌, arith}
use Rattle.std.specs.Int.{bit_at, bit_not, w64}
use Rattle.std.specs.Int.Bits.{bit_xor}
use Rattle.std.specs.Simd.Lanes.{zip2, put_chunk}
use Rattle.std.proofs.Math.ListN.{set}
use Rattle.std.proofs.lemmas.Bool.{agree_below_at, cases_eq, cases_lt, eq-eqb, ne_eqb, le-ltb, lt-ltb}
use Rattle.std.proofs.lemmas.Bool.Decides.{nat_tests}
use Rattle.std.proofs.lemmas.List.{get_or-set_same, get_or-set_other}
use Rattle.std.proofs.lemmas.Nat.Bits.{bit_at_and, bit_at_or, bit_at_xor, bit_at-lt, bit_at_set_same, bit_at_set_other, bit_at_clear_same, bit_at_clear_other, bit_at-zero, ones_shl, bit_at_mask_inside, bit_at_mask_below, bit_at_ones, bit_at_above, bit_at_cat_low, bit_at_cat_high}
use Rattle.std.proofs.lemmas.Simd.{get_or-zip2, length-zip2, get_or-put_chunk_at, get_or-put_chunk_above}
use Rattle.lane_bits.specs.Pages.{elements_of, has, bit}
use Rattle.std.specs.Int.RustNames.{count_ones}
use Rattle.std.specs.Prelude.{replicate}
use Rattle.std.proofs.lemmas.List.{get_or-replicate, length-replicate, get_or-take, get_or-drop}
use Rattle.std.proofs.lemmas.Nat.{mod-pow-add, mod_below, pow_pos, pow-add, and_mask, mul-mod_first}
use Rattle.std.proofs.Math.Nat.{div-div-eq-div-mul}
use lib.Count.{ones_cat}
use Rattle.lane_bits.proofs.Members.{has_elements, passing, passing_next}

-- bit x by the word that it is in and its place there
pub bit_is : (words : List ℕ) (x : ℕ) → bit words x ≡ eqb (bit_at (get_or words (x / 64) 0) (x % 64)) 1
unfolding bit
bit_is words x = refl

-- ---- lanes

both_digits : (p q : ℕ) → p < 2 → q < 2 → eqb (min p q) 1 ≡ (eqb p 1 && eqb q 1)
both_digits p q lp lq = grind (arith, nat_tests)

one_digit : (p q : ℕ) → p < 2 → q < 2 → eqb (max p q) 1 ≡ (eqb p 1 || eqb q 1)
one_digit p q lp lq = grind (arith, nat_tests)

lane : (f : ℕ → ℕ → ℕ) (a b : List ℕ) (x : ℕ) → length a ≡ 64 → length b ≡ 64 → x < 4096 → get_or (zip2 f a b) (x / 64) 0 ≡ f (get_or a (x / 64) 0) (get_or b (x / 64) 0)
lane f a b x la lb lt = get_or-zip2 f a b (x / 64) 0 0 0 (omega arith) (omega arith)

pub and_bit : (a b : List ℕ) (x : ℕ) → length a ≡ 64 → length b ≡ 64 → x < 4096 → bit (zip2 bit_and a b) x ≡ (bit a x && bit b x)
and_bit a b x la lb lt =
    let u = get_or a (x / 64) 0 in
    let v = get_or b (x / 64) 0 in
    bit_is (zip2 bit_and a b) x
    ∙ ap (λ (w : ℕ). eqb (bit_at w (x % 64)) 1) (lane bit_and a b x la lb lt)
    ∙ ap (λ (d : ℕ). eqb d 1) (bit_at_and u v (x % 64))
    ∙ both_digits (bit_at u (x % 64)) (bit_at v (x % 64)) (bit_at-lt u (x % 64)) (bit_at-lt v (x % 64))
    ∙ (λ i. sym (bit_is a x) i && sym (bit_is b x) i)

pub or_bit : (a b : List ℕ) (x : ℕ) → length a ≡ 64 → length b ≡ 64 → x < 4096 → bit (zip2 bit_or a b) x ≡ (bit a x || bit b x)
or_bit a b x la lb lt =
    let u = get_or a (x / 64) 0 in
    let v = get_or b (x / 64) 0 in
    bit_is (zip2 bit_or a b) x
    ∙ ap (λ (w : ℕ). eqb (bit_at w (x % 64)) 1) (lane bit_or a b x la lb lt)
    ∙ ap (λ (d : ℕ). eqb d 1) (bit_at_or u v (x % 64))
    ∙ one_digit (bit_at u (x % 64)) (bit_at v (x % 64)) (bit_at-lt u (x % 64)) (bit_at-lt v (x % 64))
    ∙ (λ i. sym (bit_is a x) i || sym (bit_is b x) i)

unlike_digits : (p q : ℕ) → p < 2 → q < 2 → eqb ((p + min p q) % 2) 1 ≡ (eqb p 1 && not (eqb q 1))
unlike_digits p q lp lq = elim (cases_eq p 0) [
  | inl none ↦ rw none (none_left q lq)
  | inr some ↦ (let is : p ≡ 1 = omega arith in rw is (one_left q lq))
] where
  none_left : (q : ℕ) → q < 2 → eqb ((0 + min 0 q) % 2) 1 ≡ (eqb 0 1 && not (eqb q 1))
  none_left q lq = (let z : (0 + min 0 q) % 2 ≡ 0 = omega arith in rw z refl)

  one_left : (q : ℕ) → q < 2 → eqb ((1 + min 1 q) % 2) 1 ≡ (eqb 1 1 && not (eqb q 1))
  one_left q lq = elim (cases_eq q 0) [
    | inl none ↦ rw none refl
    | inr some ↦ (let is : q ≡ 1 = omega arith in rw is refl)
  ]

-- what is left of a without what it shares with b
pub left_bit : (a b : List ℕ) (x : ℕ) → length a ≡ 64 → length b ≡ 64 → length (zip2 bit_and a b) ≡ 64 → x < 4096 → bit (zip2 bit_xor a (zip2 bit_and a b)) x ≡ (bit a x && not (bit b x))
left_bit a b x la lb lc lt =
    let u = get_or a (x / 64) 0 in
    let v = get_or b (x / 64) 0 in
    bit_is (zip2 bit_xor a (zip2 bit_and a b)) x
    ∙ ap (λ (w : ℕ). eqb (bit_at w (x % 64)) 1) (lane bit_xor a (zip2 bit_and a b) x la lc lt ∙ ap (bit_xor u) (lane bit_and a b x la lb lt))
    ∙ ap (λ (d : ℕ). eqb d 1) (bit_at_xor u (bit_and u v) (x % 64) ∙ ap (λ (d : ℕ). (bit_at u (x % 64) + d) % 2) (bit_at_and u v (x % 64)))
    ∙ unlike_digits (bit_at u (x % 64)) (bit_at v (x % 64)) (bit_at-lt u (x % 64)) (bit_at-lt v (x % 64))
    ∙ (λ i. sym (bit_is a x) i && not (sym (bit_is b x) i))

-- ---- sets by their words

past : (x : ℕ) (b : Bool) → 4096 ≤ x → (ltb x 4096 && b) ≡ false
past x b le = rw (le-ltb x 4096 le) refl

inside : (x : ℕ) (b : Bool) → x < 4096 → (ltb x 4096 && b) ≡ b
inside x b lt = rw (lt-ltb x 4096 lt) refl

-- a bit is in the set that the words stand for
pub has_bit : (a : List ℕ) (x : ℕ) → x < 4096 → has (elements_of (bit a)) x ≡ bit a x
has_bit a x lt = has_elements (bit a) x ∙ inside x (bit a x) lt

-- and nothing past the last is
pub none_past : (a : List ℕ) (x : ℕ) → 4096 ≤ x → has (elements_of (bit a)) x ≡ false
none_past a x le = has_elements (bit a) x ∙ past x (bit a x) le

-- a test by words is a test by sets
pub by_words : (f : ℕ → Bool → Bool) (c a : List ℕ) → ((x : ℕ) → 4096 ≤ x → f x false ≡ false) → ((x : ℕ) → x < 4096 → bit c x ≡ f x (bit a x))
    → (x : ℕ) → has (elements_of (bit c)) x ≡ f x (has (elements_of (bit a)) x)
by_words f c a out same x = elim (cases_lt x 4096) [
  | inl lt ↦ has_bit c x lt ∙ same x lt ∙ ap (f x) (sym (has_bit a x lt))
  | inr le ↦ none_past c x le ∙ sym (out x le) ∙ ap (f x) (sym (none_past a x le))
]

pub by_both_words : (f : Bool → Bool → Bool) (c a b : List ℕ) → f false false ≡ false → ((x : ℕ) → x < 4096 → bit c x ≡ f (bit a x) (bit b x))
    → (x : ℕ) → has (elements_of (bit c)) x ≡ f (has (elements_of (bit a)) x) (has (elements_of (bit b)) x)
by_both_words f c a b out same x = elim (cases_lt x 4096) [
  | inl lt ↦ has_bit c x lt ∙ same x lt ∙ (λ i. f (sym (has_bit a x lt) i) (sym (has_bit b x lt) i))
  | inr le ↦ none_past c x le ∙ sym out ∙ (λ i. f (sym (none_past a x le) i) (sym (none_past b x le) i))
]

-- ---- one bit

other_place : (i x : ℕ) → i / 64 ≡ x / 64 → x ≢ i → x % 64 ≢ i % 64
other_place i x same ne is = ne (omega arith)

or_true : (b : Bool) → true ≡ (b || true)
or_true true = refl
or_true false = refl

or_false : (b : Bool) → b ≡ (b || false)
or_false true = refl
or_false false = refl

and_false : (b : Bool) → false ≡ (b && false)
and_false true = refl
and_false false = refl

and_true : (b : Bool) → b ≡ (b && true)
and_true true = refl
and_true false = refl

pub set_bit : (words : List ℕ) (i x k : ℕ) → k ≡ i / 64 → length words ≡ 64 → i < 4096 → x < 4096
    → bit (set words k (bit_or (get_or words k 0) (1 * 2 ^ (i % 64) % 2 ^ 64))) x ≡ (bit words x || eqb x i)
set_bit words i x k at len li lx =
    bit_is (set words k (bit_or (get_or words k 0) (1 * 2 ^ (i % 64) % 2 ^ 64))) x
    ∙ elim (cases_eq (x / 64) k) [
      | inl here ↦ (
          ap (λ (w : ℕ). eqb (bit_at w (x % 64)) 1) (ap (λ (n : ℕ). get_or (set words k new) n 0) here ∙ get_or-set_same words k new 0 (omega arith))
          ∙ elim (cases_eq x i) [
            | inl same ↦ (
                ap (λ (j : ℕ). eqb (bit_at new (j % 64)) 1) same
                ∙ ap (λ (d : ℕ). eqb d 1) (bit_at_set_same w64 (get_or words k 0) (i % 64) (omega arith))
                ∙ or_true (bit words x) ∙ ap (λ (b : Bool). bit words x || b) (sym (eq-eqb x i same))
                )
            | inr other ↦ (
                ap (λ (d : ℕ). eqb d 1) (bit_at_set_other w64 (get_or words k 0) (i % 64) (omega arith) (x % 64) (other_place i x (sym (here ∙ at)) other))
                ∙ ap (λ (n : ℕ). eqb (bit_at (get_or words n 0) (x % 64)) 1) (sym here)
                ∙ sym (bit_is words x) ∙ or_false (bit words x) ∙ ap (λ (b : Bool). bit words x || b) (sym (ne_eqb x i other))
                )
          ]
          )
      | inr away ↦ (
          ap (λ (w : ℕ). eqb (bit_at w (x % 64)) 1) (get_or-set_other words k (x / 64) new 0 away)
          ∙ sym (bit_is words x) ∙ or_false (bit words x)
          ∙ ap (λ (b : Bool). bit words x || b) (sym (ne_eqb x i (λ e. away (ap (λ (n : ℕ). n / 64) e ∙ sym at))))
          )
    ] where
      new : ℕ
      new = bit_or (get_or words k 0) (1 * 2 ^ (i % 64) % 2 ^ 64)

pub clear_bit : (words : List ℕ) (i x k : ℕ) → k ≡ i / 64 → length words ≡ 64 → i < 4096 → x < 4096
    → bit (set words k (bit_and (get_or words k 0) (bit_not w64 (1 * 2 ^ (i % 64) % 2 ^ 64)))) x ≡ (bit words x && not (eqb x i))
clear_bit words i x k at len li lx =
    bit_is (set words k (bit_and (get_or words k 0) (bit_not w64 (1 * 2 ^ (i % 64) % 2 ^ 64)))) x
    ∙ elim (cases_eq (x / 64) k) [
      | inl here ↦ (
          ap (λ (w : ℕ). eqb (bit_at w (x % 64)) 1) (ap (λ (n : ℕ). get_or (set words k new) n 0) here ∙ get_or-set_same words k new 0 (omega arith))
          ∙ elim (cases_eq x i) [
            | inl same ↦ (
                ap (λ (j : ℕ). eqb (bit_at new (j % 64)) 1) same
                ∙ ap (λ (d : ℕ). eqb d 1) (bit_at_clear_same w64 (get_or words k 0) (i % 64) (omega arith))
                ∙ and_false (bit words x) ∙ ap (λ (b : Bool). bit words x && not b) (sym (eq-eqb x i same))
                )
            | inr other ↦ (
                ap (λ (d : ℕ). eqb d 1) (bit_at_clear_other w64 (get_or words k 0) (i % 64) (omega arith) (x % 64) (omega arith) (other_place i x (sym (here ∙ at)) other))
                ∙ ap (λ (n : ℕ). eqb (bit_at (get_or words n 0) (x % 64)) 1) (sym here)
                ∙ sym (bit_is words x) ∙ and_true (bit words x) ∙ ap (λ (b : Bool). bit words x && not b) (sym (ne_eqb x i other))
                )
          ]
          )
      | inr away ↦ (
          ap (λ (w : ℕ). eqb (bit_at w (x % 64)) 1) (get_or-set_other words k (x / 64) new 0 away)
          ∙ sym (bit_is words x) ∙ and_true (bit words x)
          ∙ ap (λ (b : Bool). bit words x && not b) (sym (ne_eqb x i (λ e. away (ap (λ (n : ℕ). n / 64) e ∙ sym at))))
          )
    ] where
      new : ℕ
      new = bit_and (get_or words k 0) (bit_not w64 (1 * 2 ^ (i % 64) % 2 ^ 64))

-- ---- no bit, and counts

pub none_set : (x : ℕ) → has (elements_of (bit (replicate 64 0))) x ≡ false
none_set x = elim (cases_lt x 4096) [
  | inl lt ↦ (
      has_bit (replicate 64 0) x lt ∙ bit_is (replicate 64 0) x
      ∙ ap (λ (w : ℕ). eqb (bit_at w (x % 64)) 1) (get_or-replicate 64 (x / 64) 0 0 (omega arith))
      ∙ ap (λ (d : ℕ). eqb d 1) (bit_at-zero (x % 64))
      )
  | inr le ↦ none_past (replicate 64 0) x le
]

digit_is : (d : ℕ) → d < 2 → d ≡ cond (eqb d 1) 1 0
digit_is d lt = grind (arith, nat_tests)

-- the ones of the low bits of a word
ones_low : (w n : ℕ) → count_ones (w % 2 ^ (n + 1)) ≡ bit_at w n + count_ones (w % 2 ^ n)
unfolding lib.Count.ones lib.Count.ones_in
ones_low w n =
    let is : 1 + n ≡ n + 1 = omega arith in
    ap (λ (m : ℕ). count_ones (w % 2 ^ m)) (sym is)
    ∙ ap count_ones (mod-pow-add w 1 n)
    ∙ ones_cat n (w / 2 ^ n % 2 ^ 1) (w % 2 ^ n) (mod_below w (2 ^ n) (pow_pos n))
    ∙ ap (λ (m : ℕ). m + count_ones (w % 2 ^ n)) (one_of (bit_at w n) (bit_at-lt w n)) where
      one_of : (d : ℕ) → d < 2 → count_ones d ≡ d
      one_of zero lt = refl
      one_of (suc zero) lt = refl
      one_of (suc (suc d)) lt = absurd (omega arith)

low_part : (words : List ℕ) (k n : ℕ) → n ≤ 64 → passing (bit words) (k * 64) + count_ones (get_or words k 0 % 2 ^ n) ≡ passing (bit words) (k * 64 + n)
unfolding lib.Count.ones lib.Count.ones_in
low_part words k zero le = none (passing (bit words) (k * 64)) (get_or words k 0) ∙ ap (passing (bit words)) (let z : k * 64 ≡ k * 64 + 0 = omega arith in z) where
  none : (p w : ℕ) → p + count_ones (w % 2 ^ 0) ≡ p
  none p w = let z : w % 2 ^ 0 ≡ 0 = omega arith in rw z (omega arith)
low_part words k (suc n) le =
    let one : suc n ≡ n + 1 = omega arith in
    let next : k * 64 + n + 1 ≡ k * 64 + suc n = omega arith in
    let ih = low_part words k n (omega arith) in
    let word : (k * 64 + n) / 64 ≡ k = omega arith in
    let place : (k * 64 + n) % 64 ≡ n = omega arith in
    let w = get_or words k 0 in
    let is : cond (bit words (k * 64 + n)) 1 0 ≡ bit_at w n =
    ap (λ (b : Bool). cond b 1 0) (bit_is words (k * 64 + n) ∙ (λ i. eqb (bit_at (get_or words (word i) 0) (place i)) 1)) ∙ sym (digit_is (bit_at w n) (bit_at-lt w n)) in
    let low = ap (λ (m : ℕ). count_ones (w % 2 ^ m)) one ∙ ones_low w n in
    let up = passing_next (bit words) (k * 64 + n) in
    sums (passing (bit words) (k * 64)) (count_ones (w % 2 ^ suc n)) (bit_at w n) (count_ones (w % 2 ^ n)) (passing (bit words) (k * 64 + n)) (cond (bit words (k * 64 + n)) 1 0) low ih is
    ∙ sym up ∙ ap (passing (bit words)) next where
      sums : (p a b c q d : ℕ) → a ≡ b + c → p + c ≡ q → d ≡ b → p + a ≡ q + d
      sums p a b c q d ea eq ed = omega arith

-- the count goes on by the ones of the next word
pub next_word : (words : List ℕ) (k : ℕ) → get_or words k 0 < 2 ^ 64 → passing (bit words) (k * 64) + count_ones (get_or words k 0) ≡ passing (bit words) ((k + 1) * 64)
next_word words k lt =
    let whole : get_or words k 0 % 2 ^ 64 ≡ get_or words k 0 = omega arith in
    let end : k * 64 + 64 ≡ (k + 1) * 64 = omega arith in
    ap (λ (w : ℕ). passing (bit words) (k * 64) + count_ones w) (sym whole) ∙ low_part words k 64 (omega arith) ∙ ap (passing (bit words)) end

-- ---- the first of all

pub set_at : (words : List ℕ) (x k j : ℕ) → x / 64 ≡ k → x % 64 ≡ j → x < 4096 → bit_at (get_or words k 0) j ≡ 1 → has (elements_of (bit words)) x ≡ true
set_at words x k j word place lt is =
    has_bit words x lt ∙ bit_is words x ∙ (λ i. eqb (bit_at (get_or words (word i) 0) (place i)) 1) ∙ ap (λ (d : ℕ). eqb d 1) is

pub clear_at : (words : List ℕ) (x k j : ℕ) → x / 64 ≡ k → x % 64 ≡ j → bit_at (get_or words k 0) j ≡ 0 → has (elements_of (bit words)) x ≡ false
clear_at words x k j word place is = elim (cases_lt x 4096) [
  | inl lt ↦ has_bit words x lt ∙ bit_is words x ∙ (λ i. eqb (bit_at (get_or words (word i) 0) (place i)) 1) ∙ ap (λ (d : ℕ). eqb d 1) is
  | inr le ↦ none_past words x le
]

-- the bits of a word from one on
pub masked : (w r j : ℕ) → r < 64 → j < 64 → r ≤ j → bit_at (bit_and w ((2 ^ 64 - 1) * 2 ^ r % 2 ^ 64)) j ≡ bit_at w j
masked w r j lr lj le =
    ap (λ (m : ℕ). bit_at (bit_and w m) j) (ones_shl 64 r (omega arith))
    ∙ bit_at_and w (2 ^ 64 - 2 ^ r) j
    ∙ ap (λ (d : ℕ). min (bit_at w j) d) (bit_at_mask_inside r 64 j le lj)
    ∙ least (bit_at w j) (bit_at-lt w j) where
      least : (d : ℕ) → d < 2 → min d 1 ≡ d
      least d lt = omega arith

pub masked_below : (w r j : ℕ) → r < 64 → j < r → bit_at (bit_and w ((2 ^ 64 - 1) * 2 ^ r % 2 ^ 64)) j ≡ 0
masked_below w r j lr lj =
    ap (λ (m : ℕ). bit_at (bit_and w m) j) (ones_shl 64 r (omega arith))
    ∙ bit_at_and w (2 ^ 64 - 2 ^ r) j
    ∙ ap (λ (d : ℕ). min (bit_at w j) d) (bit_at_mask_below r 64 j lj)
    ∙ least (bit_at w j) where
      least : (d : ℕ) → min d 0 ≡ 0
      least d = omega arith

-- ---- bits moved down

-- two words side by side, from a bit of the first on
low_half : (p s j : ℕ) → bit_at (p / 2 ^ s) j ≡ bit_at p (s + j)
low_half p s j = ap (λ (n : ℕ). n % 2) (div-div-eq-div-mul p (2 ^ s) (2 ^ j) ∙ ap (λ (m : ℕ). p / m) (sym (pow-add 2 s j)))

kept_low : (n j : ℕ) → j < 64 → bit_at (n % 2 ^ 64) j ≡ bit_at n j
kept_low n j lt =
    ap (λ (m : ℕ). bit_at m j) (sym (and_mask n 64)) ∙ bit_at_and n (2 ^ 64 - 1) j ∙ ap (λ (d : ℕ). min (bit_at n j) d) (bit_at_ones 64 j lt) ∙ least (bit_at n j) (bit_at-lt n j) where
      least : (d : ℕ) → d < 2 → min d 1 ≡ d
      least d le = omega arith

high_half : (q s : ℕ) → s < 64 → q * 2 ^ 1 % 2 ^ 64 * 2 ^ (63 - s) % 2 ^ 64 ≡ q * 2 ^ (64 - s) % 2 ^ 64
high_half q s lt =
    let is : 1 + (63 - s) ≡ 64 - s = omega arith in
    mul-mod_first (q * 2 ^ 1) (2 ^ (63 - s)) (2 ^ 64)
    ∙ ap (λ (n : ℕ). n % 2 ^ 64) (mul_assoc q (2 ^ 1) (2 ^ (63 - s)) ∙ ap (λ (m : ℕ). q * m) (sym (pow-add 2 1 (63 - s)) ∙ ap (λ (k : ℕ). 2 ^ k) is))

high_low : (q s j : ℕ) → s < 64 → j < 64 - s → bit_at (q * 2 ^ 1 % 2 ^ 64 * 2 ^ (63 - s) % 2 ^ 64) j ≡ 0
high_low q s j lt below =
    ap (λ (n : ℕ). bit_at n j) (high_half q s lt) ∙ kept_low (q * 2 ^ (64 - s)) j (omega arith)
    ∙ ap (λ (n : ℕ). bit_at n j) (add-zero' (q * 2 ^ (64 - s))) ∙ bit_at_cat_low q (64 - s) 0 j below ∙ bit_at-zero j where
      add-zero' : (n : ℕ) → n ≡ n + 0
      add-zero' n = omega arith

high_high : (q s j : ℕ) → s < 64 → j < 64 → 64 - s ≤ j → bit_at (q * 2 ^ 1 % 2 ^ 64 * 2 ^ (63 - s) % 2 ^ 64) j ≡ bit_at q (j - (64 - s))
high_high q s j lt lj above =
    ap (λ (n : ℕ). bit_at n j) (high_half q s lt) ∙ kept_low (q * 2 ^ (64 - s)) j lj
    ∙ ap (λ (n : ℕ). bit_at n j) (add-zero' (q * 2 ^ (64 - s))) ∙ bit_at_cat_high q (64 - s) 0 j (pow_pos (64 - s)) above where
      add-zero' : (n : ℕ) → n ≡ n + 0
      add-zero' n = omega arith

-- the first word's part, and the second's
joined_low : (p q s j : ℕ) → s < 64 → s + j < 64 → bit_at (bit_or (p / 2 ^ s) (q * 2 ^ 1 % 2 ^ 64 * 2 ^ (63 - s) % 2 ^ 64)) j ≡ bit_at p (s + j)
joined_low p q s j lt in_first =
    bit_at_or (p / 2 ^ s) (q * 2 ^ 1 % 2 ^ 64 * 2 ^ (63 - s) % 2 ^ 64) j
    ∙ (λ i. max (low_half p s j i) (high_low q s j lt (omega arith) i))
    ∙ most (bit_at p (s + j)) where
      most : (d : ℕ) → max d 0 ≡ d
      most d = omega arith

joined_high : (p q s j : ℕ) → p < 2 ^ 64 → s < 64 → j < 64 → 64 ≤ s + j → bit_at (bit_or (p / 2 ^ s) (q * 2 ^ 1 % 2 ^ 64 * 2 ^ (63 - s) % 2 ^ 64)) j ≡ bit_at q (j - (64 - s))
joined_high p q s j fits lt lj past =
    bit_at_or (p / 2 ^ s) (q * 2 ^ 1 % 2 ^ 64 * 2 ^ (63 - s) % 2 ^ 64) j
    ∙ (λ i. max ((low_half p s j ∙ bit_at_above p 64 (s + j) fits past) i) (high_high q s j lt lj (omega arith) i))
    ∙ most (bit_at q (j - (64 - s))) where
      most : (d : ℕ) → max 0 d ≡ d
      most d = omega arith

abbrev pub shifted_down : ℕ → ℕ → ℕ
shifted_down a b = a / 2 ^ b

abbrev pub shifted_up : ℕ → ℕ → ℕ
shifted_up a b = a * 2 ^ b % 2 ^ 64

-- the lanes of two loads, one word apart, shifted and put together
pub moved : (words : List ℕ) (f s x : ℕ) → f + 64 < length words → s < 64 → ((k : ℕ) → get_or words k 0 < 2 ^ 64) → x < 4096
    → bit (zip2 bit_or (zip2 shifted_down (take 64 (drop f words)) (replicate 64 s)) (zip2 shifted_up (zip2 shifted_up (take 64 (drop (f + 1) words)) (replicate 64 1)) (replicate 64 (63 - s)))) x
    ≡ bit words (f * 64 + s + x)
moved words f s x len lt fits lx =
    let k : ℕ = x / 64 in
    let j : ℕ = x % 64 in
    let in_lanes : k < 64 = omega arith in
    let l1 : length (take 64 (drop f words)) ≡ 64 = omega (arith, length-take 64 (drop f words), length-drop f words) in
    let l2 : length (take 64 (drop (f + 1) words)) ≡ 64 = omega (arith, length-take 64 (drop (f + 1) words), length-drop (f + 1) words) in
    let down_is = lane_at shifted_down (take 64 (drop f words)) s k l1 in_lanes ∙ ap (λ (w : ℕ). w / 2 ^ s) (get_or-take 64 (drop f words) k 0 in_lanes ∙ get_or-drop f words k 0) in
    let up_is = lane_at shifted_up (zip2 shifted_up (take 64 (drop (f + 1) words)) (replicate 64 1)) (63 - s) k (length_lanes shifted_up (take 64 (drop (f + 1) words)) 1 l2) in_lanes
    ∙ ap (λ (w : ℕ). shifted_up w (63 - s)) (lane_at shifted_up (take 64 (drop (f + 1) words)) 1 k l2 in_lanes
    ∙ ap (λ (w : ℕ). shifted_up w 1) (get_or-take 64 (drop (f + 1) words) k 0 in_lanes ∙ get_or-drop (f + 1) words k 0)) in
    bit_is _ x
    ∙ ap (λ (w : ℕ). eqb (bit_at w j) 1) (get_or-zip2 bit_or _ _ k 0 0 0
    (omega (arith, length_lanes shifted_down (take 64 (drop f words)) s l1))
    (omega (arith, length_lanes shifted_up (zip2 shifted_up (take 64 (drop (f + 1) words)) (replicate 64 1)) (63 - s) (length_lanes shifted_up (take 64 (drop (f + 1) words)) 1 l2)))
    ∙ (λ i. bit_or (down_is i) (up_is i)))
    ∙ ap (λ (d : ℕ). eqb d 1) at_place
    ∙ sym (bit_is words (f * 64 + s + x)) where
      lane_at : (f : ℕ → ℕ → ℕ) (xs : List ℕ) (n k : ℕ) → length xs ≡ 64 → k < 64 → get_or (zip2 f xs (replicate 64 n)) k 0 ≡ f (get_or xs k 0) n
      lane_at f xs n k len lk = get_or-zip2 f xs (replicate 64 n) k 0 0 0 (omega arith) (omega (arith, length-replicate 64 n)) ∙ ap (f (get_or xs k 0)) (get_or-replicate 64 k n 0 lk)

      length_lanes : (f : ℕ → ℕ → ℕ) (xs : List ℕ) (n : ℕ) → length xs ≡ 64 → length (zip2 f xs (replicate 64 n)) ≡ 64
      length_lanes f xs n len = length-zip2 f xs (replicate 64 n) (len ∙ sym (length-replicate 64 n)) ∙ len

      at_place : bit_at (bit_or (get_or words (f + x / 64) 0 / 2 ^ s) (shifted_up (shifted_up (get_or words (f + 1 + x / 64) 0) 1) (63 - s))) (x % 64) ≡ bit_at (get_or words ((f * 64 + s + x) / 64) 0) ((f * 64 + s + x) % 64)
      at_place = elim (cases_lt (s + x % 64) 64) [
        | inl first ↦ (
            let word : f + x / 64 ≡ (f * 64 + s + x) / 64 = omega arith in
            let place : s + x % 64 ≡ (f * 64 + s + x) % 64 = omega arith in
            joined_low (get_or words (f + x / 64) 0) (get_or words (f + 1 + x / 64) 0) s (x % 64) lt first
            ∙ (λ i. bit_at (get_or words (word i) 0) (place i))
            )
        | inr second ↦ (
            let word : f + 1 + x / 64 ≡ (f * 64 + s + x) / 64 = omega arith in
            let place : x % 64 - (64 - s) ≡ (f * 64 + s + x) % 64 = omega arith in
            joined_high (get_or words (f + x / 64) 0) (get_or words (f + 1 + x / 64) 0) s (x % 64) (fits (f + x / 64)) lt (omega arith) second
            ∙ (λ i. bit_at (get_or words (word i) 0) (place i))
            )
      ]

-- words with as many zeros behind them
padded_bit : (words : List ℕ) (y : ℕ) → length words ≡ 64 → y < 8192 → bit (put_chunk 0 (replicate 128 0) words) y ≡ has (elements_of (bit words)) y
padded_bit words y len lt =
    bit_is (put_chunk 0 (replicate 128 0) words) y
    ∙ elim (cases_lt y 4096) [
      | inl below ↦ (
          let long : length {A = ℕ} (replicate {A = ℕ} 128 0) ≡ 128 = length-replicate {A = ℕ} 128 0 in
          let at : y / 64 ≡ 0 + y / 64 = omega arith in
          ap (λ (w : ℕ). eqb (bit_at w (y % 64)) 1)
          (ap (λ (k : ℕ). get_or (put_chunk 0 (replicate 128 0) words) k 0) at
          ∙ get_or-put_chunk_at 0 (replicate 128 0) words (y / 64) 0 (omega arith) (omega arith))
          ∙ sym (bit_is words y) ∙ sym (has_bit words y below)
          )
      | inr le ↦ (
          ap (λ (w : ℕ). eqb (bit_at w (y % 64)) 1)
          (get_or-put_chunk_above 0 (replicate 128 0) words (y / 64) 0 (omega arith) ∙ get_or-replicate 128 (y / 64) 0 0 (omega arith))
          ∙ ap (λ (d : ℕ). eqb d 1) (bit_at-zero (y % 64))
          ∙ sym (none_past words y le)
          )
    ]

pub lowered_bit : (words lanes : List ℕ) (f s n : ℕ) → length words ≡ 64 → f ≡ n / 64 → s ≡ n % 64 → n < 4096
    → ((x : ℕ) → x < 4096 → bit lanes x ≡ bit (put_chunk 0 (replicate 128 0) words) (f * 64 + s + x))
    → (x : ℕ) → has (elements_of (bit lanes)) x ≡ has (elements_of (bit words)) (x + n)
lowered_bit words lanes f s n len first shift ln same x = elim (cases_lt x 4096) [
  | inl lt ↦ (
      let at : f * 64 + s + x ≡ x + n = omega arith in
      has_bit lanes x lt ∙ same x lt ∙ ap (bit (put_chunk 0 (replicate 128 0) words)) at ∙ padded_bit words (x + n) len (omega arith)
      )
  | inr le ↦ none_past lanes x le ∙ sym (none_past words (x + n) (omega arith))
]

-- ---- multiples

-- a word in which the multiples of a step are set, where the step divides 64
pub all_multiples : (w step : ℕ) → ((j : ℕ) → j < 64 → eqb (bit_at w j) 1 ≡ eqb (j % step) 0) → ((x : ℕ) → x % 64 % step ≡ x % step)
    → (x : ℕ) → has (elements_of (bit (replicate 64 w))) x ≡ (ltb x 4096 && eqb (x % step) 0)
all_multiples w step set low x = elim (cases_lt x 4096) [
  | inl lt ↦ (
      has_bit (replicate 64 w) x lt ∙ bit_is (replicate 64 w) x
      ∙ ap (λ (v : ℕ). eqb (bit_at v (x % 64)) 1) (get_or-replicate 64 (x / 64) w 0 (omega arith))
      ∙ set (x % 64) (omega arith) ∙ ap (λ (d : ℕ). eqb d 0) (low x) ∙ sym (inside x (eqb (x % step) 0) lt)
      )
  | inr le ↦ none_past (replicate 64 w) x le ∙ sym (past x (eqb (x % step) 0) le)
]

pub ones_set : (j : ℕ) → j < 64 → eqb (bit_at 0xffff_ffff_ffff_ffff j) 1 ≡ eqb (j % 1) 0
ones_set j lt = agree_below_at (λ (k : ℕ). eqb (bit_at 0xffff_ffff_ffff_ffff k) 1) (λ (k : ℕ). eqb (k % 1) 0) 64 j refl lt

pub twos_set : (j : ℕ) → j < 64 → eqb (bit_at 0x5555_5555_5555_5555 j) 1 ≡ eqb (j % 2) 0
twos_set j lt = agree_below_at (λ (k : ℕ). eqb (bit_at 0x5555_5555_5555_5555 k) 1) (λ (k : ℕ). eqb (k % 2) 0) 64 j refl lt

pub fours_set : (j : ℕ) → j < 64 → eqb (bit_at 0x1111_1111_1111_1111 j) 1 ≡ eqb (j % 4) 0
fours_set j lt = agree_below_at (λ (k : ℕ). eqb (bit_at 0x1111_1111_1111_1111 k) 1) (λ (k : ℕ). eqb (k % 4) 0) 64 j refl lt

pub low_ones : (x : ℕ) → x % 64 % 1 ≡ x % 1
low_ones x = omega arith

pub low_twos : (x : ℕ) → x % 64 % 2 ≡ x % 2
low_twos x = omega arith

pub low_fours : (x : ℕ) → x % 64 % 4 ≡ x % 4
low_fours x = omega arith
