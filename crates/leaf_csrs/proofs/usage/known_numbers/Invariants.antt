use Rattle.std.proofs.Common.{◌≡◌, ℕ, ◌&&◌, ltb}
use Rattle.dom_set.specs.Elements.{is_within}
use Rattle.leaf_csrs.proofs.Counted.{is_known}
use Rattle.leaf_csrs.proofs.usage.known_numbers.Given as goal

abbrev pub invariant-loop-number : goal.invariant-loop-number
invariant-loop-number l = (v : ℕ) → is_within l.pairs.items v ≡ (ltb v l.number && is_known l.registers v)
