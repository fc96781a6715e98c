use Rattle.part_state.proofs.States.{told_by_whole}
use Rattle.part_state.proofs.part.Part.is_told.Goals as goal

pub returns : goal.returns
returns c = told_by_whole c.args.self.now c.self.inside.inner c.self.view_is c.self.invariant
