use Rattle.std.proofs.Common.{◌≡◌, map, take, []}
use Rattle.std.specs.Prelude.{replicate}
use Rattle.part_machine.specs.Whole.{bare}
use Rattle.part_state.proofs.logged.beginnings.Given as goal

abbrev pub invariant-loop-hart : goal.invariant-loop-hart
invariant-loop-hart l = record {
  first : map bare l.first.items ≡ take l.hart-index (map bare l.harts);
  traces : l.traces.items ≡ replicate l.hart-index [];
}
