use Rattle.std.proofs.Common.{◌≡◌, ◌++◌, drop}
use Rattle.part_told.specs.Finishing.{known_from, AreSmall}
use Rattle.part_told.proofs.states.known_registers.Given as goal

abbrev pub invariant-loop-n : goal.invariant-loop-n
invariant-loop-n l = record {
  known : l.places ++ known_from l.n (drop l.n l.regs) ≡ known_from 1 (drop 1 l.regs);
  small : AreSmall l.places;
}
