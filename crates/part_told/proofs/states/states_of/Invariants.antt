use Rattle.std.proofs.Common.{◌≡◌, take, map}
use Rattle.std.specs.List.{AllByRecursion}
use Rattle.tpl_ast.specs.States.{IsState}
use Rattle.part_machine.specs.Whole.{bare}
use Rattle.part_told.specs.Finishing.{told_state}
use Rattle.part_told.proofs.states.states_of.Given as goal

abbrev pub invariant-loop-hart : goal.invariant-loop-hart
invariant-loop-hart l = record {
  told : l.told ≡ map told_state (map bare (take l.hart-index l.harts));
  states : AllByRecursion IsState l.told;
}
