-- Shifts by whole bytes.
use Rattle.std.proofs.Common.{◌≡◌, ℕ, zero, suc, ◌*◌, ◌+◌, ◌^◌, refl, sym, ap, ◌∙◌, arith}
use Rattle.std.proofs.lemmas.Nat.{pow-add}

more : (k : ℕ) → 8 * suc k ≡ 8 + 8 * k
more k = omega arith

next : (k : ℕ) → 1 + k ≡ suc k
next k = omega arith

pub byte_shift : (k : ℕ) → 2 ^ (8 * k) ≡ 256 ^ k
byte_shift zero = refl
byte_shift (suc k) = ap (λ (n : ℕ). 2 ^ n) (more k) ∙ pow-add 2 8 (8 * k) ∙ ap (λ (n : ℕ). 256 * n) (byte_shift k) ∙ sym (pow-add 256 1 k) ∙ ap (λ (n : ℕ). 256 ^ n) (next k)
