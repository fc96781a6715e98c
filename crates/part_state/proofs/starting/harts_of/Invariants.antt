use Rattle.part_state.proofs.Declared.{AreBegun}
use Rattle.part_state.proofs.starting.harts_of.Given as goal

abbrev pub invariant-loop-k : goal.invariant-loop-k
invariant-loop-k l = AreBegun l.decls l.harts.items l.k
