use Rattle.std.proofs.Common.{◌≡◌, ◌++◌, drop}
use Rattle.part_told.specs.Finishing.{known_csrs, AreSmall}
use Rattle.part_told.proofs.states.push_csrs.Given as goal

abbrev pub invariant-loop-i : goal.invariant-loop-i
invariant-loop-i l = record {
  known : l.places ++ known_csrs (drop l.i l.addrs) l.hart.csrs ≡ l.fn.places ++ known_csrs l.addrs l.hart.csrs;
  small : AreSmall l.fn.places → AreSmall l.places;
}
