-- Sums and products that end at the greatest number.
use Rattle.std.proofs.Common.{◌≡◌, ℕ, zero, suc, ◌+◌, ◌-◌, ◌*◌, ◌<◌, ◌≤◌, ◌^◌, ◌⊎◌, inl, inr, List, drop, get_or, length, map, arith, refl, sym, ap, ◌∙◌}
use Rattle.std.proofs.Math.Nat.{mul-suc, mul-zero, mul_assoc}
use Rattle.std.proofs.lemmas.List.{at_drop_more}
use Rattle.fd_prob.specs.declared.problem.Case.{Case}
use Rattle.fd_prob.specs.declared.slot.Slot.{Slot}
use Rattle.fd_prob.specs.Spaces.{product_of, saturated, size_in}

sides : (a : ℕ) → (a ≤ 2 ^ 64 - 1) ⊎ (2 ^ 64 - 1 ≤ a)
sides a = grind arith

fewer : (a b : ℕ) → a ≤ 2 ^ 64 - 1 → saturated (saturated a * b) ≡ saturated (a * b)
fewer a b h = let same : saturated a ≡ a = omega arith in rw same refl

more : (a b : ℕ) → 2 ^ 64 - 1 ≤ a → saturated (saturated a * b) ≡ saturated (a * b)
more a zero h = omega (arith, mul-zero a, mul-zero (saturated a))
more a (suc b) h = omega (arith, mul-suc a b, mul-suc (saturated a) b)

pub times : (a b : ℕ) → saturated (saturated a * b) ≡ saturated (a * b)
times a b = elim (sides a) [ inl h ↦ fewer a b h | inr h ↦ more a b h ]

pub step : (a b c : ℕ) → saturated (saturated (a * b) * c) ≡ saturated (a * (b * c))
step a b c = times (a * b) c ∙ ap saturated (mul_assoc a b c)

-- one field more
pub field : (c : Case) (fields : List Slot) (i p s r : ℕ) (d : Slot) → i < length fields → s ≡ size_in c (get_or fields i d) → r ≡ saturated (p * s) → saturated (p * product_of (map (size_in c) (drop i fields))) ≡ saturated (product_of (map (size_in c) fields)) → saturated (r * product_of (map (size_in c) (drop (i + 1) fields))) ≡ saturated (product_of (map (size_in c) fields))
field c fields i p s r d within size product so_far =
    let rest : ℕ = product_of (map (size_in c) (drop (i + 1) fields)) in
    let more : product_of (map (size_in c) (drop i fields)) ≡ size_in c (get_or fields i d) * rest = at_drop_more (λ (fs : List Slot). product_of (map (size_in c) fs)) fields i d within in
    ap (λ (n : ℕ). saturated (n * rest)) product ∙ step p s rest ∙ ap (λ (n : ℕ). saturated (p * n)) (ap (λ (n : ℕ). n * rest) size ∙ sym more) ∙ so_far
