use Rattle.leaf_turn.proofs.Keeping.{kept_more, kept_same}
use Rattle.gen_turn.proofs.binding.bind_name.Goals as goal

pub returns-in_ok-bind-in-None-name-clause-kept : goal.returns-in_ok-bind-in-None-name-clause-kept
returns-in_ok-bind-in-None-name-clause-kept c = kept_more c.args.part.now c.args.part.now c.bind.new.self (kept_same c.args.part.now) c.in_ok-bind-in-None-name.ensures.earlier
