use Rattle.std.proofs.Common.{◌≡◌, ℕ, ◌<◌, ◌^◌, ◌&&◌, drop}
use Rattle.dom_set.specs.Elements.{is_in}
use Rattle.leaf_link.specs.Cases.{all_tests}
use Rattle.leaf_stand.specs.Stands.{turn_of}
use Rattle.leaf_stand.proofs.stand.Stand.passing.Given as goal

abbrev pub invariant-loop-atom : goal.invariant-loop-atom
invariant-loop-atom l = (v : ℕ) → v < 2 ^ 32 → (is_in l.left v && all_tests (turn_of l.self) (drop l.atom-index l.leaf) l.var v) ≡ (is_in l.fn.set v && all_tests (turn_of l.self) l.leaf l.var v)
