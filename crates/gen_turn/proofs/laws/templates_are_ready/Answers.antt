use Rattle.gen_turn.proofs.Readiness.{templates_are_ready}
use Rattle.gen_turn.proofs.laws.templates_are_ready.Goals as goal

pub returns : goal.returns
returns c = templates_are_ready c.template_law.ensures c.leaf_law.ensures
