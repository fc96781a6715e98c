-- The addresses that lead to bytes.
use Rattle.std.proofs.Common.{◌≡◌, ℕ, ◌+◌, ◌-◌, ◌%◌, ◌^◌, ◌<◌, ◌≤◌, bit_and, Bool, true, false, ◌&&◌, ◌==◌, nat_le, List, [], ◌∷◌, refl, ap, ◌∙◌, arith}
use Rattle.std.specs.List.{filter}
use Rattle.std.proofs.lemmas.Bool.{and_from, le-leb}
use Rattle.std.proofs.lemmas.Nat.{and_le_l, and_le_r}
use Rattle.dom_set.specs.Elements.{elements_of, is_in, is_within}
use Rattle.data_bytes.proofs.Sets.{elements_are, filter_leaves, run_test}

-- a byte that is no further from a base than a mask is in the window
pub near_is : (base mask n last : ℕ) (bytes window near : List ℕ) → base + mask < 2 ^ 32 → last ≡ base + mask → n ≤ mask
    → window ≡ elements_of (λ x. x % 1 == 0 && is_within ((base, last) ∷ []) x) → near ≡ filter (is_in window) bytes → is_in near ((base + n) % 2 ^ 32) ≡ is_in bytes ((base + n) % 2 ^ 32)
near_is base mask n last bytes window near small is le made cut =
    let y : ℕ = (base + n) % 2 ^ 32 in
    let inside : (nat_le base ((base + n) % 2 ^ 32) && nat_le ((base + n) % 2 ^ 32) last) ≡ true =
    and_from _ _ (le-leb base ((base + n) % 2 ^ 32) (omega (arith, small, le))) (le-leb ((base + n) % 2 ^ 32) last (omega (arith, small, is, le))) in
    filter_leaves (is_in window) bytes near cut y
    ∙ ap (λ (b : Bool). is_in bytes y && b) (elements_are (λ x. x % 1 == 0 && is_within ((base, last) ∷ []) x) window made ((base + n) % 2 ^ 32) (omega arith) ∙ run_test base last ((base + n) % 2 ^ 32) ∙ inside)
    ∙ whole (is_in bytes y)
  where
    whole : (b : Bool) → (b && true) ≡ b
    whole true = refl
    whole false = refl

back : (base y d : ℕ) → base < 2 ^ 32 → y < 2 ^ 32 → d < 2 ^ 32 → (d + base) % 2 ^ 32 ≡ 0 → (y + (2 ^ 32 - d)) % 2 ^ 32 ≡ (base + y) % 2 ^ 32
back base y d small word less is = omega (arith, small, word, less, is)

pub reaching_is : (base mask ea distance : ℕ) (bytes near offsets leading : List ℕ) → base < 2 ^ 32 → ea < 2 ^ 32 → distance < 2 ^ 32 → (distance + base) % 2 ^ 32 ≡ 0
    → ((n : ℕ) → n ≤ mask → is_in near ((base + n) % 2 ^ 32) ≡ is_in bytes ((base + n) % 2 ^ 32))
    → offsets ≡ elements_of (λ y. is_in near ((y + (2 ^ 32 - distance)) % 2 ^ 32)) → leading ≡ elements_of (λ x. is_in offsets (bit_and x mask))
    → is_in leading ea ≡ is_in bytes ((base + bit_and ea mask) % 2 ^ 32)
reaching_is base mask ea distance bytes near offsets leading small word less is cut moved masked =
    let y_word : bit_and ea mask < 2 ^ 32 = omega (arith, and_le_l ea mask, word) in
    elements_are (λ x. is_in offsets (bit_and x mask)) leading masked ea word
    ∙ elements_are (λ z. is_in near ((z + (2 ^ 32 - distance)) % 2 ^ 32)) offsets moved (bit_and ea mask) y_word
    ∙ ap (is_in near) (back base (bit_and ea mask) distance small y_word less is)
    ∙ cut (bit_and ea mask) (and_le_r ea mask)
