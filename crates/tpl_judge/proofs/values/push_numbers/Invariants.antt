use Rattle.std.proofs.Common.{◌≡◌, ◌++◌, drop}
use Rattle.tpl_lang.specs.Statements.{values_of}
use Rattle.tpl_judge.proofs.values.push_numbers.Given as goal

abbrev pub invariant-loop-n : goal.invariant-loop-n
invariant-loop-n l = l.values.items ++ values_of (drop l.n-index l.ns) ≡ l.fn.values.items ++ values_of l.ns
