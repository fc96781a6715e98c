use Rattle.leaf_turn.proofs.Keeping.{kept_more, kept_same}
use Rattle.gen_turn.proofs.dropping.drop_bias.Goals as goal

pub returns-clause-kept : goal.returns-clause-kept
returns-clause-kept c = kept_more c.args.part.now c.args.part.now c.drop_wish.new.self (kept_same c.args.part.now) c.in_ok-drop_wish.ensures.earlier
