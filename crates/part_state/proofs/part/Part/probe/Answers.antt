use Rattle.part_machine.specs.Whole.{Whole}
use Rattle.part_state.specs.Probing.{IsProbe}
use Rattle.part_state.proofs.States.{has_hart, told_here}
use Rattle.part_state.proofs.part.Part.probe.Goals as goal

pub probe-requires-clause-hart : goal.probe-requires-clause-hart
probe-requires-clause-hart c = has_hart c.args.self.now c.self.inside.inner c.self.view_is c.self.invariant c.args.hart c.requires

pub returns : goal.returns
returns c = told_here (λ (w : Whole). IsProbe c.args.hart w c.probe.result) c.args.self.now c.self.inside.inner c.self.view_is c.self.invariant c.probe.ensures
