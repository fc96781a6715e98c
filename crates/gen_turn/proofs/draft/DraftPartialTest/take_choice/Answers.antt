use Rattle.std.proofs.Common.{sym, subst}
use Rattle.part_state.specs.State.{here}
use Rattle.gen_turn.specs.Grounds.{IsSameGround}
use Rattle.gen_turn.proofs.Drafting.{still_allowed}
use Rattle.gen_turn.proofs.Staying.{chosen_ground}
use Rattle.gen_turn.proofs.draft.DraftPartialTest.take_choice.Goals as goal

pub returns-in-Ok-clause-still : goal.returns-in-Ok-clause-still
returns-in-Ok-clause-still c =
    still_allowed c.args.self.now.template.now c.args.self.now.nodes c.args.self.now.part.now c.take_choice.new.self.now
    (subst (IsSameGround (here c.args.self.now.part)) (sym c.in-Ok.ensures.now) (chosen_ground c.args.way (here c.args.self.now.part)))
