use Rattle.part_machine.specs.Whole.{Whole, hart_of, known_in}
use Rattle.std.proofs.Common.{◌≡◌}
use Rattle.part_state.proofs.States.{has_hart, told_here}
use Rattle.part_state.proofs.part.Part.value_of.Goals as goal

pub value_of-requires-clause-hart : goal.value_of-requires-clause-hart
value_of-requires-clause-hart c = has_hart c.args.self.now c.self.inside.inner c.self.view_is c.self.invariant c.args.hart c.requires.hart

pub returns : goal.returns
returns c = told_here (λ (w : Whole). c.value_of.result ≡ known_in (hart_of c.args.hart w) w.memory c.args.place) c.args.self.now c.self.inside.inner c.self.view_is c.self.invariant c.value_of.ensures
