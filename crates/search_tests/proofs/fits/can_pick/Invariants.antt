use Rattle.std.proofs.Common.{◌≡◌, ◌+◌, ◌<◌, ◌^◌, drop}
use Rattle.tpl_ast.specs.Choices.{weight_of}
use Rattle.search_tests.proofs.fits.can_pick.Given as goal

abbrev pub invariant-loop-way : goal.invariant-loop-way
invariant-loop-way l = record {
  value : l.sum + weight_of (drop l.way-index l.ways) ≡ weight_of l.ways;
  fits : l.sum < 2 ^ 64;
}
