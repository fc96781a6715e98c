use Rattle.std.proofs.Common.{Some, sym, subst}
use Rattle.part_state.specs.State.{here}
use Rattle.gen_turn.specs.Grounds.{IsSameGround}
use Rattle.gen_turn.proofs.Drafting.{still_allowed, still_there}
use Rattle.gen_turn.proofs.Names.{many_with_name}
use Rattle.gen_turn.proofs.Staying.{named_ground}
use Rattle.gen_turn.proofs.draft.DraftPartialTest.bind_label.Goals as goal

pub returns-in-Ok-clause-kept : goal.returns-in-Ok-clause-kept
returns-in-Ok-clause-kept c = still_there c.args.self.now.template.now c.args.self.now.nodes c.args.self.now.part c.bind_name.new.part c.in-Ok.ensures.kept

pub returns-in-Ok-clause-still : goal.returns-in-Ok-clause-still
returns-in-Ok-clause-still c =
    still_allowed c.args.self.now.template.now c.args.self.now.nodes c.args.self.now.part.now c.bind_name.new.part.now
    (subst (IsSameGround (here c.args.self.now.part)) (sym c.in-Ok.ensures.now) (named_ground _ (here c.args.self.now.part) (many_with_name c.args.name (Some c.hart.result.now.pc) c.args.self.now.part.now.names)))
