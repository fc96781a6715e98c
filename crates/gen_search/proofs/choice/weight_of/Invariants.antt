use Rattle.std.proofs.Common.{◌≡◌, ◌+◌, drop}
use Rattle.tpl_ast.specs.Choices.{weight_of}
use Rattle.gen_search.proofs.choice.weight_of.Given as goal

abbrev pub invariant-loop-way : goal.invariant-loop-way
invariant-loop-way l = l.sum + weight_of (drop l.way-index l.ways) ≡ weight_of l.ways
