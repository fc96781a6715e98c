-- Blocks of addresses as entries of a table.
use Rattle.std.proofs.Common.{◌≡◌, ℕ, ◌+◌, ◌-◌, ◌*◌, ◌/◌, ◌%◌, ◌^◌, ◌<◌, ◌≤◌, ap, ◌∙◌, arith}
use Rattle.std.proofs.lemmas.Nat.{pow-add}
use Rattle.row_parts.specs.declared.classes.Level.{Level}
use Rattle.row_parts.specs.declared.classes.Level.TheVariants.{Root, Second}
use Rattle.row_parts.specs.Classes.{low_bit}
use Rattle.row_parts.proofs.Cuts.{low_aligned}

sized : (bits low : ℕ) → low ≤ bits → 2 ^ bits ≡ 2 ^ (bits - low) * 2 ^ low
sized bits low le = let is : bits ≡ (bits - low) + low = omega (arith, le) in ap (λ (n : ℕ). 2 ^ n) is ∙ pow-add 2 (bits - low) low

pub few_entries : (level : Level) (s bits : ℕ) → low_bit level ≤ bits → s % 2 ^ bits ≡ 0 → s + 2 ^ bits ≤ 2 ^ 32 → s / 2 ^ low_bit level + 2 ^ (bits - low_bit level) ≤ 2 ^ 20
few_entries Root s bits le aligned within = omega (arith, sized bits 22 le, within)
few_entries Second s bits le aligned within = omega (arith, sized bits 12 le, within)

pub from_first : (level : Level) (s y : ℕ) → s ≤ y → s / 2 ^ low_bit level ≤ y / 2 ^ low_bit level
from_first Root s y le = omega (arith, le)
from_first Second s y le = omega (arith, le)

pub below_end : (level : Level) (s bits y : ℕ) → low_bit level ≤ bits → s % 2 ^ bits ≡ 0 → y < s + 2 ^ bits → y / 2 ^ low_bit level < s / 2 ^ low_bit level + 2 ^ (bits - low_bit level)
below_end Root s bits y le aligned less = let zero : s % 2 ^ 22 ≡ 0 = low_aligned s bits 22 le aligned in omega (arith, sized bits 22 le, zero, less)
below_end Second s bits y le aligned less = let zero : s % 2 ^ 12 ≡ 0 = low_aligned s bits 12 le aligned in omega (arith, sized bits 12 le, zero, less)
