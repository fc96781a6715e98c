-- A front of three zeros is zeros.
use Rattle.std.proofs.Common.{◌≡◌, ℕ, zero, suc, ◌≤◌, [], ◌∷◌, take, replicate, refl, arith}

pub zeros_take : (n : ℕ) → n ≤ 3 → take {A = ℕ} n (0 ∷ 0 ∷ 0 ∷ []) ≡ replicate n 0
zeros_take zero le = refl
zeros_take (suc zero) le = refl
zeros_take (suc (suc zero)) le = refl
zeros_take (suc (suc (suc zero))) le = refl
zeros_take (suc (suc (suc (suc n)))) le = absurd (omega arith)
