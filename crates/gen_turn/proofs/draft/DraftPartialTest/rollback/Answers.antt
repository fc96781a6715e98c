use Rattle.gen_turn.proofs.Drafting.{went_back}
use Rattle.gen_turn.proofs.draft.DraftPartialTest.rollback.Goals as goal

pub returns-clause-back : goal.returns-clause-back
returns-clause-back c = went_back c.args.self.now.template.now c.args.self.now.nodes c.args.mark c.args.self.now.part c.rollback.new.self c.rollback.ensures.back
