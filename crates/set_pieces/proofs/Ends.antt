-- A pattern that fixes the highest bits is a range of numbers that match a pattern of the bits below.
use Rattle.std.proofs.Common.{◌≡◌, ℕ, ◌+◌, ◌-◌, ◌*◌, ◌/◌, ◌%◌, ◌^◌, ◌<◌, ◌≤◌, ◌&&◌, eqb, leb, bit_and, bit_or, sym, ap, ◌∙◌, arith}
use Rattle.std.proofs.lemmas.Bool.{eqb-true, eq-eqb, leb-true, le-leb, and_parts, and_from}
use Rattle.std.proofs.lemmas.Nat.{pow_pos, shr_split, shr_high, mod_below, and_assoc, and_comm, and_mask, and_mod, and-not, and_le_l, and_le_r}
use Rattle.std.specs.Int.Bits.{or_add_and, or_mod}
use Rattle.std.proofs.Math.Nat.{mod-eq_of_lt}
use Rattle.set_pieces.proofs.Low.{same_tests}

-- a mask m of 32 bits that lacks the bits f, all of them below bit k, and the bits b under it
module _ (m b f k : ℕ) (word : m < 2 ^ 32) (within : bit_and b m ≡ b) (rest : f ≡ 2 ^ 32 - 1 - m) (span : f < 2 ^ k) where
  parted : (x : ℕ) → x < 2 ^ 32 → bit_and f x + bit_and x m ≡ x
  parted x small = ap (λ (n : ℕ). bit_and n x + bit_and x m) rest ∙ ap (λ (n : ℕ). bit_and (2 ^ 32 - 1 - m) x + n) (and_comm x m) ∙ and-not 32 m x word small

  low_only : (x : ℕ) → bit_and f x ≡ bit_and f (x % 2 ^ k)
  low_only x = sym (mod-eq_of_lt (let small : bit_and f x < 2 ^ k = omega (arith, and_le_l f x, span) in small)) ∙ and_mod f x k ∙ ap (λ (n : ℕ). bit_and n (x % 2 ^ k)) (mod-eq_of_lt span)

  low_part : (x : ℕ) → bit_and f x ≤ x % 2 ^ k
  low_part x = omega (arith, low_only x, and_le_r f (x % 2 ^ k))

  -- the bits above are all kept
  kept_high : (x : ℕ) → x < 2 ^ 32 → bit_and x m / 2 ^ k ≡ x / 2 ^ k
  kept_high x small =
      let is : bit_and x m ≡ x / 2 ^ k * 2 ^ k + (x % 2 ^ k - bit_and f x) = omega (arith, parted x small, low_part x, shr_split x k) in
      ap (λ (n : ℕ). n / 2 ^ k) is ∙ shr_high (x / 2 ^ k) k (x % 2 ^ k - bit_and f x) (omega (arith, mod_below x (2 ^ k) (pow_pos k)))

  none_of_bits : b < 2 ^ 32 → bit_and f b ≡ 0
  none_of_bits small = omega (arith, parted b small, within)

  highest : b < 2 ^ 32 → bit_or b f ≡ b + f
  highest small = omega (arith, or_add_and b f, and_comm b f, none_of_bits small)

  no_carry : b < 2 ^ 32 → b % 2 ^ k + f < 2 ^ k
  no_carry small =
      let apart : bit_and (b % 2 ^ k) f ≡ 0 = and_comm (b % 2 ^ k) f ∙ sym (low_only b) ∙ none_of_bits small in
      let below : bit_or b f % 2 ^ k ≡ bit_or (b % 2 ^ k) f = or_mod b f k ∙ ap (bit_or (b % 2 ^ k)) (mod-eq_of_lt span) in
      omega (arith, apart, below, or_add_and (b % 2 ^ k) f, mod_below (bit_or b f) (2 ^ k) (pow_pos k))

  same_high : (x : ℕ) → b < 2 ^ 32 → b ≤ x → x ≤ bit_or b f → x / 2 ^ k ≡ b / 2 ^ k
  same_high x small from to =
      let is : x ≡ b / 2 ^ k * 2 ^ k + (b % 2 ^ k + (x - b)) = omega (arith, shr_split b k, from) in
      ap (λ (n : ℕ). n / 2 ^ k) is ∙ shr_high (b / 2 ^ k) k (b % 2 ^ k + (x - b)) (omega (arith, no_carry small, highest small, to))

  low_bits : (x : ℕ) → bit_and x (bit_and m (2 ^ k - 1)) ≡ bit_and x m % 2 ^ k
  low_bits x = sym (and_assoc (2 ^ k - 1) x m) ∙ and_mask (bit_and x m) k

  from_ends : (x : ℕ) → x < 2 ^ 32 → b < 2 ^ 32 → b ≤ x → x ≤ bit_or b f → bit_and x (bit_and m (2 ^ k - 1)) ≡ bit_and b (2 ^ k - 1) → bit_and x m ≡ b
  from_ends x word_x small from to low =
      let lower : bit_and x m % 2 ^ k ≡ b % 2 ^ k = sym (low_bits x) ∙ low ∙ and_mask b k in
      let upper : bit_and x m / 2 ^ k ≡ b / 2 ^ k = kept_high x word_x ∙ same_high x small from to in
      sym (shr_split (bit_and x m) k) ∙ (λ i. upper i * 2 ^ k + lower i) ∙ shr_split b k

  to_high : (x : ℕ) → x < 2 ^ 32 → b < 2 ^ 32 → bit_and x m ≡ b → x ≤ bit_or b f
  to_high x word_x small is = omega (arith, is, parted x word_x, and_le_l f x, highest small)

  to_low : (x : ℕ) → bit_and x m ≡ b → b ≤ x
  to_low x is = omega (arith, is, and_le_l x m)

  to_bits : (x : ℕ) → bit_and x m ≡ b → bit_and x (bit_and m (2 ^ k - 1)) ≡ bit_and b (2 ^ k - 1)
  to_bits x is = sym (and_assoc (2 ^ k - 1) x m) ∙ ap (λ (n : ℕ). bit_and n (2 ^ k - 1)) is

  pub ends_test : (x : ℕ) → x < 2 ^ 32 → b < 2 ^ 32 → ((leb b x && leb x (bit_or b f)) && eqb (bit_and x (bit_and m (2 ^ k - 1))) (bit_and b (2 ^ k - 1))) ≡ eqb (bit_and x m) b
  ends_test x word_x small = same_tests _ _
      (λ h. let parts = and_parts _ _ h in let ends = and_parts _ _ parts.0 in
      eq-eqb _ _ (from_ends x word_x small (leb-true _ _ ends.0) (leb-true _ _ ends.1) (eqb-true _ _ parts.1)))
      (λ h. let is = eqb-true _ _ h in
      and_from _ _ (and_from _ _ (le-leb _ _ (to_low x is)) (le-leb _ _ (to_high x word_x small is))) (eq-eqb _ _ (to_bits x is)))

  -- the bits below are within the mask of the bits below
  pub low_within : bit_and (bit_and b (2 ^ k - 1)) (bit_and m (2 ^ k - 1)) ≡ bit_and b (2 ^ k - 1)
  low_within = low_bits (bit_and b (2 ^ k - 1)) ∙ sym (and_mask (bit_and (bit_and b (2 ^ k - 1)) m) k)
      ∙ ap (λ (n : ℕ). bit_and n (2 ^ k - 1)) (and_assoc m b (2 ^ k - 1) ∙ ap (bit_and b) (and_comm (2 ^ k - 1) m) ∙ sym (and_assoc (2 ^ k - 1) b m) ∙ ap (λ (n : ℕ). bit_and n (2 ^ k - 1)) within)
      ∙ and_assoc (2 ^ k - 1) b (2 ^ k - 1) ∙ ap (bit_and b) (and_mask (2 ^ k - 1) k ∙ mod-eq_of_lt (let small : 2 ^ k - 1 < 2 ^ k = omega (arith, pow_pos k) in small))

  pub ordered : b < 2 ^ 32 → b ≤ bit_or b f
  ordered small = omega (arith, highest small)

  pub below_word : b < 2 ^ 32 → bit_or b f < 2 ^ 32
  below_word small = omega (arith, rest, highest small, within, and_le_r b m)
