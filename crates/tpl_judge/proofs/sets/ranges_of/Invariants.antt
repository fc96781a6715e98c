use Rattle.std.proofs.Common.{◌≡◌, ◌++◌, drop}
use Rattle.tpl_lang.specs.Sets.{ranges_of}
use Rattle.tpl_judge.proofs.sets.ranges_of.Given as goal

abbrev pub invariant-loop-element : goal.invariant-loop-element
invariant-loop-element l = l.ranges.items ++ ranges_of (drop l.element-index l.elements) ≡ ranges_of l.elements
