-- The patterns of the words that are legal for registers.
use Rattle.std.proofs.Common.{◌≡◌, ◌==◌, ℕ, ◌+◌, ◌-◌, ◌*◌, ◌/◌, ◌%◌, ◌<◌, ◌^◌, ◌&&◌, ◌||◌, not, min, max, false, bit_and, bit_or, [], ◌∷◌, refl, sym, ap, ◌∙◌, arith}
use Rattle.std.proofs.lemmas.Bool.Decides.{nat_tests}
use Rattle.std.proofs.lemmas.Nat.{and_mask, or_disjoint}
use Rattle.std.proofs.lemmas.Nat.Bits.{bit_at_and, bit_at_or, bit_at-zero, and_pow, same_from_bits}
use Rattle.std.specs.Int.{bit_at}
use Rattle.dom_set.specs.Elements.{is_matching}
use Rattle.rv_csr.specs.Table.{allows}
use Rattle.rv_csr.specs.declared.table.Values.TheVariants.{SubsetsOf, StatusWithin}

-- under two masks that share no bit two words share none
none_shared : (a b n : ℕ) → bit_and a b ≡ 0 → bit_and (bit_and n a) (bit_and n b) ≡ 0
none_shared a b n apart = same_from_bits _ _ (λ i.
    let zero : bit_at (bit_and a b) i ≡ 0 = ap (λ (m : ℕ). bit_at m i) apart ∙ bit_at-zero i in
    let each : min (bit_at a i) (bit_at b i) ≡ 0 = sym (bit_at_and a b i) ∙ zero in
    let whole : bit_at (bit_and (bit_and n a) (bit_and n b)) i ≡ min (min (bit_at n i) (bit_at a i)) (min (bit_at n i) (bit_at b i)) = simp bit_at_and in
    let none : bit_at 0 i ≡ 0 = bit_at-zero i in
    omega arith)

both_parts : (a b n : ℕ) → bit_and n (bit_or a b) ≡ bit_or (bit_and n a) (bit_and n b)
both_parts a b n = same_from_bits _ _ (λ i.
    let l : bit_at (bit_and n (bit_or a b)) i ≡ min (bit_at n i) (max (bit_at a i) (bit_at b i)) = bit_at_and n (bit_or a b) i ∙ ap (min (bit_at n i)) (bit_at_or a b i) in
    let r : bit_at (bit_or (bit_and n a) (bit_and n b)) i ≡ max (min (bit_at n i) (bit_at a i)) (min (bit_at n i) (bit_at b i)) = simp (bit_at_and, bit_at_or) in
    omega arith)

-- the bits under two masks that share none
split : (a b n : ℕ) → bit_and a b ≡ 0 → bit_and n (bit_or a b) ≡ bit_and n a + bit_and n b
split a b n apart = both_parts a b n ∙ or_disjoint (bit_and n a) (bit_and n b) (none_shared a b n apart)

pub whole : (n : ℕ) → n < 2 ^ 32 → bit_and n (2 ^ 32 - 1) ≡ n
whole n small = let h : n % 2 ^ 32 ≡ n = omega arith in and_mask n 32 ∙ h

-- the bits of a word under a mask, and the rest
parts : (mask rest n : ℕ) → bit_and mask rest ≡ 0 → bit_or mask rest ≡ 2 ^ 32 - 1 → n < 2 ^ 32 → bit_and n mask + bit_and n rest ≡ n
parts mask rest n apart all small = sym (split mask rest n apart) ∙ ap (bit_and n) all ∙ whole n small

subset_test : (a r n : ℕ) → a + r ≡ n → ((r == 0) || false) ≡ (a == n)
subset_test a r n h = grind (arith, nat_tests)

pub subsets : (mask rest n : ℕ) → bit_and mask rest ≡ 0 → bit_or mask rest ≡ 2 ^ 32 - 1 → n < 2 ^ 32 → is_matching ((rest, 0) ∷ []) n ≡ (bit_and n mask == n)
subsets mask rest n apart all small = subset_test (bit_and n mask) (bit_and n rest) n (parts mask rest n apart all small)

pub sstatus : (n : ℕ) → n < 2 ^ 32 → is_matching ((0xfff3_fedd, 0) ∷ []) n ≡ allows (SubsetsOf 0x000c_0122) n
sstatus n small = subsets 0x000c_0122 0xfff3_fedd n refl refl small

pub medeleg : (n : ℕ) → n < 2 ^ 32 → is_matching ((0xffff_4c00, 0) ∷ []) n ≡ allows (SubsetsOf 0x0000_b3ff) n
medeleg n small = subsets 0x0000_b3ff 0xffff_4c00 n refl refl small

no_bit : (n mask i : ℕ) → bit_at mask i ≡ 0 → bit_at (bit_and n mask) i ≡ 0
no_bit n mask i none = let h : bit_at (bit_and n mask) i ≡ min (bit_at n i) (bit_at mask i) = bit_at_and n mask i in omega arith

-- bits 11 and 12 of a number, and others
status_test : (a r n x y : ℕ) → a + r ≡ n → bit_at r 11 ≡ 0 → bit_at r 12 ≡ 0 → x ≡ r + bit_at n 12 * 2 ^ 12 → y ≡ r + bit_at n 12 * 2 ^ 12 + bit_at n 11 * 2 ^ 11 → ((x == 0) || ((y == 0x1800) || false)) ≡ ((a == n) && not (n / 2 ^ 11 % 4 == 2))
status_test a r n x y is no_11 no_12 at_x at_y = grind (arith, nat_tests)

pub mstatus : (n : ℕ) → n < 2 ^ 32 → is_matching ((0xffa1_f655, 0) ∷ (0xffa1_fe55, 0x1800) ∷ []) n ≡ allows (StatusWithin 0x005e_19aa) n
mstatus n small = status_test (bit_and n 0x005e_19aa) (bit_and n 0xffa1_e655) n (bit_and n 0xffa1_f655) (bit_and n 0xffa1_fe55)
    (parts 0x005e_19aa 0xffa1_e655 n refl refl small)
    (no_bit n 0xffa1_e655 11 refl)
    (no_bit n 0xffa1_e655 12 refl)
    (split 0xffa1_e655 (2 ^ 12) n refl ∙ ap (λ (m : ℕ). bit_and n 0xffa1_e655 + m) (and_pow n 12))
    (split 0xffa1_f655 (2 ^ 11) n refl ∙ ap (λ (m : ℕ). bit_and n 0xffa1_f655 + m) (and_pow n 11) ∙ ap (λ (m : ℕ). m + bit_at n 11 * 2 ^ 11) (split 0xffa1_e655 (2 ^ 12) n refl ∙ ap (λ (m : ℕ). bit_and n 0xffa1_e655 + m) (and_pow n 12)))
