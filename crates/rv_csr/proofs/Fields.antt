-- The fields of a word of which the bits of a mask are replaced.
use Rattle.std.proofs.Common.{◌≡◌, ℕ, ◌-◌, ◌/◌, ◌%◌, ◌^◌, ap, ◌∙◌, bit_and, bit_or}
use Rattle.std.proofs.Math.Nat.{mod-mod}
use Rattle.std.proofs.lemmas.Nat.{and_comm, or_shr, or_mod, and_shr, and_mod, and_mask, or_comm}
use Rattle.rv_csr.specs.Status.{replaced}

-- the k bits of a word from bit i on
abbrev pub field : ℕ → ℕ → ℕ → ℕ
field i k n = n / 2 ^ i % 2 ^ k

field_or : (i k a b : ℕ) → field i k (bit_or a b) ≡ bit_or (field i k a) (field i k b)
field_or i k a b = ap (λ (n : ℕ). n % 2 ^ k) (or_shr a b i) ∙ or_mod (a / 2 ^ i) (b / 2 ^ i) k

pub field_and : (i k a b : ℕ) → field i k (bit_and a b) ≡ bit_and (field i k a) (field i k b)
field_and i k a b = ap (λ (n : ℕ). n % 2 ^ k) (and_shr a b i) ∙ and_mod (a / 2 ^ i) (b / 2 ^ i) k

replaced_field : (i k mask old bits : ℕ) → field i k (replaced mask old bits) ≡ bit_or (bit_and (field i k old) (field i k (2 ^ 32 - 1 - mask))) (field i k bits)
replaced_field i k mask old bits = field_or i k _ bits ∙ ap (λ (n : ℕ). bit_or n (field i k bits)) (field_and i k old _)

-- a field apart from the mask is kept
pub kept_field : (i k mask old bits : ℕ) → field i k (2 ^ 32 - 1 - mask) ≡ 2 ^ k - 1 → field i k bits ≡ 0 → field i k (replaced mask old bits) ≡ field i k old
kept_field i k mask old bits ones zero =
    replaced_field i k mask old bits
    ∙ ap (λ (n : ℕ). bit_or (bit_and (field i k old) n) (field i k bits)) ones
    ∙ ap (bit_or (bit_and (field i k old) (2 ^ k - 1))) zero
    ∙ or_comm _ 0
    ∙ and_mask (field i k old) k
    ∙ mod-mod (old / 2 ^ i) (2 ^ k)

-- a field within the mask is the new one
pub new_field : (i k mask old bits : ℕ) → field i k (2 ^ 32 - 1 - mask) ≡ 0 → field i k (replaced mask old bits) ≡ field i k bits
new_field i k mask old bits zero =
    replaced_field i k mask old bits
    ∙ ap (λ (n : ℕ). bit_or (bit_and (field i k old) n) (field i k bits)) zero
    ∙ ap (λ (n : ℕ). bit_or n (field i k bits)) (and_comm (field i k old) 0)
