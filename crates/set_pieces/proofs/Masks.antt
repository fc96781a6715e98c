-- The bits of numbers under masks: under two masks at once, and the lowest bits of a mask.
use Rattle.std.proofs.Common.{◌≡◌, ℕ, ◌+◌, ◌-◌, ◌*◌, ◌/◌, ◌%◌, ◌^◌, ◌<◌, ◌≤◌, ◌⊎◌, inl, inr, Bool, true, false, ◌&&◌, not, eqb, min, max, bit_and, bit_or, refl, sym, ap, ◌∙◌, arith}
use Rattle.std.proofs.lemmas.Bool.{cases_lt, eqb-true, eq-eqb, ne_eqb, and_parts, false_from_ne_true}
use Rattle.std.proofs.lemmas.Nat.{pow_pos, pow-add, one_shl, shr_split, mod_below, mod-pow-add, and_assoc, and_block, and_comm, and_le_r, and_mask, and_mod, or_comm, or_disjoint, or_shifted, xor_block}
use Rattle.std.proofs.lemmas.Bool.Decides.{Decides-and, Decides-eqb, same_from_decides, nat_tests}
use Rattle.std.proofs.lemmas.Nat.Bits.{and_pow, shr_and_one, bit_at_and, bit_at_or, bit_at_ones, bit_at-lt, bit_at-trailing_ones, same_from_bits, same_from_bits_below}
use Rattle.std.proofs.Math.Pow.{pow_mono}
use Rattle.std.specs.Int.{bit_at, w32, trailing_ones}
use Rattle.std.specs.Int.Bits.{bit_xor, and_self, and_zero_l, and_zero_r, or_zero_r, xor_zero_r}
use Rattle.set_pieces.specs.Counting.{one}

abbrev at : ℕ → ℕ → ℕ
at i n = bit_at n i

bit_cases : (n k : ℕ) → (bit_at n k ≡ 0) ⊎ (bit_at n k ≡ 1)
bit_cases n k = elim (cases_lt (bit_at n k) 1) [ inl none ↦ inl (omega arith) | inr some ↦ inr (omega arith) ]

-- ---- under two masks at once

-- the bits under two masks are within both
pub both_within : (m b n c : ℕ) → bit_and b m ≡ b → bit_and c n ≡ c → bit_and (bit_or b c) (bit_or m n) ≡ bit_or b c
both_within m b n c h k = same_from_bits _ _ (λ i.
    let of_b : min (at i b) (at i m) ≡ at i b = sym (bit_at_and b m i) ∙ ap (at i) h in
    let of_c : min (at i c) (at i n) ≡ at i c = sym (bit_at_and c n i) ∙ ap (at i) k in
    let masks : at i (bit_or m n) ≡ max (at i m) (at i n) = bit_at_or m n i in
    let bits : at i (bit_or b c) ≡ max (at i b) (at i c) = bit_at_or b c i in
    let all : at i (bit_and (bit_or b c) (bit_or m n)) ≡ min (at i (bit_or b c)) (at i (bit_or m n)) = bit_at_and (bit_or b c) (bit_or m n) i in
    omega arith)

-- where they don't contradict each other, a number with the bits under both has those under each
under_first : (m b n c x : ℕ) → bit_and b m ≡ b → bit_and c n ≡ c → bit_and b n ≡ bit_and c m → bit_and x (bit_or m n) ≡ bit_or b c → bit_and x m ≡ b
under_first m b n c x h k meet is = same_from_bits _ _ (λ i.
    let of_b : min (at i b) (at i m) ≡ at i b = sym (bit_at_and b m i) ∙ ap (at i) h in
    let of_c : min (at i c) (at i n) ≡ at i c = sym (bit_at_and c n i) ∙ ap (at i) k in
    let met : min (at i b) (at i n) ≡ min (at i c) (at i m) = sym (bit_at_and b n i) ∙ ap (at i) meet ∙ bit_at_and c m i in
    let masks : at i (bit_or m n) ≡ max (at i m) (at i n) = bit_at_or m n i in
    let all : min (at i x) (at i (bit_or m n)) ≡ max (at i b) (at i c) = sym (bit_at_and x (bit_or m n) i) ∙ ap (at i) is ∙ bit_at_or b c i in
    let one : at i (bit_and x m) ≡ min (at i x) (at i m) = bit_at_and x m i in
    omega arith)

under_second : (m b n c x : ℕ) → bit_and b m ≡ b → bit_and c n ≡ c → bit_and b n ≡ bit_and c m → bit_and x (bit_or m n) ≡ bit_or b c → bit_and x n ≡ c
under_second m b n c x h k meet is =
    under_first n c m b x k h (sym meet) (ap (bit_and x) (or_comm n m) ∙ is ∙ or_comm b c)

under_both : (m b n c x : ℕ) → bit_and x m ≡ b → bit_and x n ≡ c → bit_and x (bit_or m n) ≡ bit_or b c
under_both m b n c x h k = same_from_bits _ _ (λ i.
    let of_b : min (at i x) (at i m) ≡ at i b = sym (bit_at_and x m i) ∙ ap (at i) h in
    let of_c : min (at i x) (at i n) ≡ at i c = sym (bit_at_and x n i) ∙ ap (at i) k in
    let masks : at i (bit_or m n) ≡ max (at i m) (at i n) = bit_at_or m n i in
    let all : at i (bit_and x (bit_or m n)) ≡ min (at i x) (at i (bit_or m n)) = bit_at_and x (bit_or m n) i in
    let bits : at i (bit_or b c) ≡ max (at i b) (at i c) = bit_at_or b c i in
    omega arith)

pub both_test : (m b n c x : ℕ) → bit_and b m ≡ b → bit_and c n ≡ c → bit_and b n ≡ bit_and c m →
    eqb (bit_and x (bit_or m n)) (bit_or b c) ≡ (eqb (bit_and x m) b && eqb (bit_and x n) c)
both_test m b n c x h k meet = same_from_decides {P = (bit_and x m ≡ b) × (bit_and x n ≡ c)} _ _
    ((λ t. let is = eqb-true _ _ t in (under_first m b n c x h k meet is, under_second m b n c x h k meet is)), (λ p. eq-eqb _ _ (under_both m b n c x p.0 p.1)))
    (Decides-and _ _ (Decides-eqb _ _) (Decides-eqb _ _))

-- a number that has the bits under both shows that they don't contradict each other
meet_from : (m b n c x : ℕ) → bit_and x m ≡ b → bit_and x n ≡ c → bit_and b n ≡ bit_and c m
meet_from m b n c x h k =
    ap (λ (y : ℕ). bit_and y n) (sym h) ∙ and_assoc n x m ∙ ap (bit_and x) (and_comm m n) ∙ sym (and_assoc m x n) ∙ ap (λ (y : ℕ). bit_and y m) k

pub none_test : (m b n c x : ℕ) → (bit_and b n ≡ bit_and c m → ⊥) → false ≡ (eqb (bit_and x m) b && eqb (bit_and x n) c)
none_test m b n c x apart = sym (false_from_ne_true _ (λ t.
    let parts = and_parts _ _ t in
    apart (meet_from m b n c x (eqb-true _ _ parts.0) (eqb-true _ _ parts.1))))

-- ---- one bit of a mask

pub bit_clear : (n k : ℕ) → bit_and n (2 ^ k) ≡ 0 → bit_at n k ≡ 0
bit_clear n k h = elim (bit_cases n k) [
  | inl none ↦ none
  | inr some ↦ (let is : 1 * 2 ^ k ≡ 0 = ap (λ (m : ℕ). m * 2 ^ k) (sym some) ∙ sym (and_pow n k) ∙ h in absurd (omega (arith, pow_pos k)))
]

pub bit_set : (n k : ℕ) → (bit_and n (2 ^ k) ≡ 0 → ⊥) → bit_at n k ≡ 1
bit_set n k h = elim (bit_cases n k) [
  | inl none ↦ absurd (h (and_pow n k ∙ ap (λ (m : ℕ). m * 2 ^ k) none ∙ omega arith))
  | inr some ↦ some
]

-- what is within a mask lacks the bits that the mask lacks
clear_within : (m b k : ℕ) → bit_and b m ≡ b → bit_at m k ≡ 0 → bit_at b k ≡ 0
clear_within m b k h clear =
    let is : min (at k b) (at k m) ≡ at k b = sym (bit_at_and b m k) ∙ ap (at k) h in
    omega arith

-- the low bits, and the one above them
next_bit : (n k : ℕ) → n % 2 ^ (k + 1) ≡ bit_at n k * 2 ^ k + n % 2 ^ k
next_bit n k = let is : 1 + k ≡ k + 1 = omega arith in ap (λ (m : ℕ). n % 2 ^ m) (sym is) ∙ mod-pow-add n 1 k

no_next : (n k : ℕ) → bit_at n k ≡ 0 → n % 2 ^ (k + 1) ≡ n % 2 ^ k
no_next n k clear = next_bit n k ∙ ap (λ (d : ℕ). d * 2 ^ k + n % 2 ^ k) clear ∙ omega arith

contradiction : (b : Bool) → false ≡ (b && not b)
contradiction true = refl
contradiction false = refl

-- where the mask lacks the bit, no number misses it
pub unturned : (m b k x : ℕ) → bit_and b m ≡ b → bit_at m k ≡ 0 →
    false ≡ (eqb (bit_and x (m % 2 ^ k)) (b % 2 ^ k) && not (eqb (bit_and x (m % 2 ^ (k + 1))) (b % 2 ^ (k + 1))))
unturned m b k x h clear =
    rw (no_next m k clear, no_next b k (clear_within m b k h clear)) (contradiction (eqb (bit_and x (m % 2 ^ k)) (b % 2 ^ k)))

-- all bits up to one
low_ones : (k : ℕ) → bit_or (2 ^ k) (2 ^ k - 1) ≡ 2 ^ (k + 1) - 1
low_ones k =
    let is : 1 * 2 ^ k ≡ 2 ^ k = omega arith in
    ap (λ (n : ℕ). bit_or n (2 ^ k - 1)) (sym is) ∙ or_shifted 1 k (2 ^ k - 1) (omega (arith, pow_pos k)) ∙ omega (arith, pow-add 2 k 1)

turned_mask : (m k : ℕ) → bit_at m k ≡ 1 → bit_and m (bit_or (2 ^ k) (2 ^ k - 1)) ≡ 1 * 2 ^ k + m % 2 ^ k
turned_mask m k set = ap (bit_and m) (low_ones k) ∙ and_mask m (k + 1) ∙ next_bit m k ∙ ap (λ (d : ℕ). d * 2 ^ k + m % 2 ^ k) set

turned_bits : (b k : ℕ) → bit_xor (bit_and b (bit_or (2 ^ k) (2 ^ k - 1))) (2 ^ k) ≡ (1 - bit_at b k) * 2 ^ k + b % 2 ^ k
turned_bits b k =
    let low : bit_and b (bit_or (2 ^ k) (2 ^ k - 1)) ≡ bit_at b k * 2 ^ k + b % 2 ^ k = ap (bit_and b) (low_ones k) ∙ and_mask b (k + 1) ∙ next_bit b k in
    let one : 2 ^ k ≡ 1 * 2 ^ k + 0 = omega arith in
    (λ i. bit_xor (low i) (one i))
    ∙ xor_block k (bit_at b k) 1 (b % 2 ^ k) 0 (mod_below b (2 ^ k) (pow_pos k)) (pow_pos k)
    ∙ (λ i. other (bit_at b k) (bit_cases b k) i * 2 ^ k + xor_zero_r (b % 2 ^ k) i) where
      other : (d : ℕ) → (d ≡ 0) ⊎ (d ≡ 1) → bit_xor d 1 ≡ 1 - d
      other d (inl none) = rw none refl
      other d (inr some) = rw some refl

-- the numbers' bits under a mask with the bit, and with those below it
pub and_above : (x d m k : ℕ) → m < 2 ^ k → bit_and x (d * 2 ^ k + m) ≡ bit_and (x / 2 ^ k) d * 2 ^ k + bit_and (x % 2 ^ k) m
and_above x d m k lt =
    ap (λ (n : ℕ). bit_and n (d * 2 ^ k + m)) (sym (shr_split x k)) ∙ and_block k (x / 2 ^ k) d (x % 2 ^ k) m (mod_below x (2 ^ k) (pow_pos k)) lt

and_with : (x m k : ℕ) → m < 2 ^ k → bit_and x (1 * 2 ^ k + m) ≡ bit_at x k * 2 ^ k + bit_and x m
and_with x m k lt =
    let low : bit_and x m ≡ bit_and (x % 2 ^ k) m =
    ap (bit_and x) (omega arith) ∙ and_above x 0 m k lt ∙ (λ i. and_zero_r (x / 2 ^ k) i * 2 ^ k + bit_and (x % 2 ^ k) m) ∙ omega arith in
    and_above x 1 m k lt ∙ (λ i. shr_and_one x k i * 2 ^ k + sym low i)

pub turned_within : (m b k : ℕ) → bit_and b m ≡ b → bit_at m k ≡ 1 →
    bit_and (bit_xor (bit_and b (bit_or (2 ^ k) (2 ^ k - 1))) (2 ^ k)) (bit_and m (bit_or (2 ^ k) (2 ^ k - 1))) ≡ bit_xor (bit_and b (bit_or (2 ^ k) (2 ^ k - 1))) (2 ^ k)
turned_within m b k h set =
    let pos = pow_pos k in
    (λ i. bit_and (turned_bits b k i) (turned_mask m k set i))
    ∙ and_block k (1 - bit_at b k) 1 (b % 2 ^ k) (m % 2 ^ k) (mod_below b (2 ^ k) pos) (mod_below m (2 ^ k) pos)
    ∙ (λ i. one (bit_at b k) (bit_cases b k) i * 2 ^ k + (sym (and_mod b m k) ∙ ap (λ (n : ℕ). n % 2 ^ k) h) i)
    ∙ sym (turned_bits b k) where
      one : (d : ℕ) → (d ≡ 0) ⊎ (d ≡ 1) → bit_and (1 - d) 1 ≡ 1 - d
      one d (inl none) = rw none refl
      one d (inr some) = rw some refl

-- two bits above two numbers below them
by_bits : (s d e u v : ℕ) → u < s → v < s → (d ≡ 0) ⊎ (d ≡ 1) → (e ≡ 0) ⊎ (e ≡ 1) →
    eqb (d * s + u) ((1 - e) * s + v) ≡ (eqb u v && not (eqb (d * s + u) (e * s + v)))
by_bits s d e u v lu lv (inl p) (inl q) = rw (p, q) (zero_zero s u v lu lv) where
  zero_zero : (s u v : ℕ) → u < s → v < s → eqb (0 * s + u) ((1 - 0) * s + v) ≡ (eqb u v && not (eqb (0 * s + u) (0 * s + v)))
  zero_zero s u v lu lv = grind (arith, nat_tests)
by_bits s d e u v lu lv (inl p) (inr q) = rw (p, q) (zero_one s u v lu lv) where
  zero_one : (s u v : ℕ) → u < s → v < s → eqb (0 * s + u) ((1 - 1) * s + v) ≡ (eqb u v && not (eqb (0 * s + u) (1 * s + v)))
  zero_one s u v lu lv = grind (arith, nat_tests)
by_bits s d e u v lu lv (inr p) (inl q) = rw (p, q) (one_zero s u v lu lv) where
  one_zero : (s u v : ℕ) → u < s → v < s → eqb (1 * s + u) ((1 - 0) * s + v) ≡ (eqb u v && not (eqb (1 * s + u) (0 * s + v)))
  one_zero s u v lu lv = grind (arith, nat_tests)
by_bits s d e u v lu lv (inr p) (inr q) = rw (p, q) (one_one s u v lu lv) where
  one_one : (s u v : ℕ) → u < s → v < s → eqb (1 * s + u) ((1 - 1) * s + v) ≡ (eqb u v && not (eqb (1 * s + u) (1 * s + v)))
  one_one s u v lu lv = grind (arith, nat_tests)

-- the numbers that have the bits below bit k, and not that one
pub turned_test : (m b k x : ℕ) → bit_at m k ≡ 1 →
    eqb (bit_and x (bit_and m (bit_or (2 ^ k) (2 ^ k - 1)))) (bit_xor (bit_and b (bit_or (2 ^ k) (2 ^ k - 1))) (2 ^ k))
    ≡ (eqb (bit_and x (m % 2 ^ k)) (b % 2 ^ k) && not (eqb (bit_and x (m % 2 ^ (k + 1))) (b % 2 ^ (k + 1))))
turned_test m b k x set =
    let pos = pow_pos k in
    let below : m % 2 ^ k < 2 ^ k = mod_below m (2 ^ k) pos in
    let upper : m % 2 ^ (k + 1) ≡ 1 * 2 ^ k + m % 2 ^ k = next_bit m k ∙ ap (λ (d : ℕ). d * 2 ^ k + m % 2 ^ k) set in
    let split = and_with x (m % 2 ^ k) k below in
    (λ i. eqb ((ap (bit_and x) (turned_mask m k set) ∙ split) i) (turned_bits b k i))
    ∙ by_bits (2 ^ k) (bit_at x k) (bit_at b k) (bit_and x (m % 2 ^ k)) (b % 2 ^ k) (omega (arith, and_le_r x (m % 2 ^ k))) (mod_below b (2 ^ k) pos) (bit_cases x k) (bit_cases b k)
    ∙ (λ i. eqb (bit_and x (m % 2 ^ k)) (b % 2 ^ k) && not (eqb (sym (ap (bit_and x) upper ∙ split) i) (sym (next_bit b k) i)))

-- ---- a mask with one bit more

disjoint : (n k : ℕ) → bit_at n k ≡ 0 → bit_and n (2 ^ k) ≡ 0
disjoint n k clear = and_pow n k ∙ ap (λ (m : ℕ). m * 2 ^ k) clear ∙ omega arith

pub more_bits : (n k : ℕ) → bit_at n k ≡ 0 → n < bit_or n (2 ^ k)
more_bits n k clear = omega (arith, or_disjoint n (2 ^ k) (disjoint n k clear), pow_pos k)

pub lower_within : (m b k : ℕ) → bit_and b m ≡ b → bit_and b (bit_or m (2 ^ k)) ≡ b
lower_within m b k h =
    let is : bit_or b 0 ≡ b = or_zero_r b in
    rw is at (both_within m b (2 ^ k) 0 h (and_zero_l (2 ^ k)))

pub upper_within : (m b k : ℕ) → bit_and b m ≡ b → bit_and (bit_or b (2 ^ k)) (bit_or m (2 ^ k)) ≡ bit_or b (2 ^ k)
upper_within m b k h = both_within m b (2 ^ k) (2 ^ k) h (and_self (2 ^ k))

lower_test : (m b k x : ℕ) → bit_and b m ≡ b → bit_at m k ≡ 0 → eqb (bit_and x (bit_or m (2 ^ k))) b ≡ (eqb (bit_and x m) b && eqb (bit_and x (2 ^ k)) 0)
lower_test m b k x h clear =
    ap (eqb (bit_and x (bit_or m (2 ^ k)))) (sym (or_zero_r b))
    ∙ both_test m b (2 ^ k) 0 x h (and_zero_l (2 ^ k)) (disjoint b k (clear_within m b k h clear) ∙ sym (and_zero_l m))

upper_test : (m b k x : ℕ) → bit_and b m ≡ b → bit_at m k ≡ 0 →
    eqb (bit_and x (bit_or m (2 ^ k))) (bit_or b (2 ^ k)) ≡ (eqb (bit_and x m) b && eqb (bit_and x (2 ^ k)) (2 ^ k))
upper_test m b k x h clear =
    both_test m b (2 ^ k) (2 ^ k) x h (and_self (2 ^ k)) (disjoint b k (clear_within m b k h clear) ∙ sym (and_comm (2 ^ k) m ∙ disjoint m k clear))

-- each number that matches has the bit or lacks it
pub halves_test : (m b k x : ℕ) → bit_and b m ≡ b → bit_at m k ≡ 0 →
    one (eqb (bit_and x m) b) ≡ one (eqb (bit_and x (bit_or m (2 ^ k))) b) + one (eqb (bit_and x (bit_or m (2 ^ k))) (bit_or b (2 ^ k)))
halves_test m b k x h clear =
    rw (lower_test m b k x h clear, upper_test m b k x h clear, and_pow x k) (go (eqb (bit_and x m) b) (2 ^ k) (bit_at x k) (pow_pos k) (bit_cases x k)) where
      first : (a : Bool) → one a ≡ one (a && true) + one (a && false)
      first true = refl
      first false = refl

      second : (a : Bool) → one a ≡ one (a && false) + one (a && true)
      second true = refl
      second false = refl

      go : (a : Bool) (s d : ℕ) → 0 < s → (d ≡ 0) ⊎ (d ≡ 1) → one a ≡ one (a && eqb (d * s) 0) + one (a && eqb (d * s) s)
      go a s d pos (inl none) =
          let lacks : eqb (0 * s) 0 ≡ true = eq-eqb _ _ (omega arith) in
          let has : eqb (0 * s) s ≡ false = ne_eqb _ _ (λ e. omega arith) in
          rw (none, lacks, has) (first a)
      go a s d pos (inr some) =
          let lacks : eqb (1 * s) 0 ≡ false = ne_eqb _ _ (λ e. omega arith) in
          let has : eqb (1 * s) s ≡ true = eq-eqb _ _ (omega arith) in
          rw (some, lacks, has) (second a)

-- ---- the lowest bit that a mask of 32 bits lacks

lacks_one : (m bit : ℕ) → m < 2 ^ 32 → bit ≡ trailing_ones w32 m → (bit ≡ 32 → ⊥) → m + 1 < 2 ^ 32
unfolding lib.Count.count_trailing_zeros
lacks_one m bit lt is other = elim (cases_lt (m + 1) (2 ^ 32)) [
  | inl below ↦ below
  | inr from ↦ (let all : m ≡ 2 ^ 32 - 1 = omega arith in absurd (other (is ∙ ap (trailing_ones w32) all)))
]

pub record IsLowest (m bit : ℕ) : Type 0 where
  pub shifted : 1 * 2 ^ bit % 2 ^ 32 ≡ 2 ^ bit
  pub clear : bit_at m bit ≡ 0
  pub below : (i : ℕ) → i < bit → bit_at m i ≡ 1

pub lowest : (m bit : ℕ) → m < 2 ^ 32 → bit ≡ trailing_ones w32 m → (bit ≡ 32 → ⊥) → IsLowest m bit
lowest m bit lt is other =
    let ones = bit_at-trailing_ones w32 m (lacks_one m bit lt is other) in
    record {
      shifted = one_shl bit 32 (omega (arith, is, ones.0));
      clear = ap (bit_at m) is ∙ ones.1;
      below = λ i within. ones.2 i (omega (arith, is));
    }

-- low bits that a mask all has
pub ones_low : (m k : ℕ) → m < 2 ^ 32 → k ≤ trailing_ones w32 m → k < 32 → (i : ℕ) → i < k → bit_at m i ≡ 1
ones_low m k lt le small i within = elim (cases_lt (m + 1) (2 ^ 32)) [
  | inl below ↦ (bit_at-trailing_ones w32 m below).2 i (omega (arith, le, within))
  | inr from ↦ (let all : m ≡ 2 ^ 32 - 1 = omega arith in ap (λ (n : ℕ). bit_at n i) all ∙ bit_at_ones 32 i (omega (arith, within, small)))
]

-- numbers with the same bits under such a mask leave the same remainder
pub same_low : (x m b k : ℕ) → bit_and x m ≡ b → ((i : ℕ) → i < k → bit_at m i ≡ 1) → x % 2 ^ k ≡ b % 2 ^ k
same_low x m b k is ones = same_from_bits_below k (x % 2 ^ k) (b % 2 ^ k) (mod_below x (2 ^ k) (pow_pos k)) (mod_below b (2 ^ k) (pow_pos k)) (λ i within.
    let of_x : at i (x % 2 ^ k) ≡ min (at i x) (at i (2 ^ k - 1)) = ap (at i) (sym (and_mask x k)) ∙ bit_at_and x (2 ^ k - 1) i in
    let of_b : at i (b % 2 ^ k) ≡ min (at i b) (at i (2 ^ k - 1)) = ap (at i) (sym (and_mask b k)) ∙ bit_at_and b (2 ^ k - 1) i in
    let all : at i (2 ^ k - 1) ≡ 1 = bit_at_ones k i within in
    let masked : at i b ≡ min (at i x) (at i m) = ap (at i) (sym is) ∙ bit_at_and x m i in
    let here : at i m ≡ 1 = ones i within in
    let bit : at i x < 2 = bit_at-lt x i in
    omega arith)

-- a mask that has a bit above it is no power of two less one
pub no_step : (m bit k : ℕ) → IsLowest m bit → 2 ^ bit ≤ m → m ≡ 2 ^ k - 1 → ⊥
no_step m bit k low from is = elim (cases_lt bit k) [
  | inl within ↦ omega (arith, low.clear, ap (at bit) is ∙ bit_at_ones k bit within)
  | inr past ↦ omega (arith, pow_mono past, pow_pos k)
]

-- a mask with no bit above it has all below it
pub ones_below : (m bit : ℕ) → IsLowest m bit → m < 2 ^ bit → m ≡ 2 ^ bit - 1
ones_below m bit low small =
    same_from_bits_below bit m (2 ^ bit - 1) small (omega (arith, pow_pos bit)) (λ i within. low.below i within ∙ sym (bit_at_ones bit i within))

pub all_ones : (m : ℕ) → m < 2 ^ 32 → trailing_ones w32 m ≡ 32 → m ≡ 2 ^ 32 - 1
all_ones m lt all = elim (cases_lt (m + 1) (2 ^ 32)) [
  | inl below ↦ (let ones = bit_at-trailing_ones w32 m below in absurd (omega (arith, all, ones.0)))
  | inr from ↦ omega arith
]
