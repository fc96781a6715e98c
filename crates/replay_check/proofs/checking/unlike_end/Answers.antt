use Rattle.std.proofs.Common.{refl}
use Rattle.replay_check.proofs.checking.unlike_end.Goals as goal

pub trace-requires-clause-there : goal.trace-requires-clause-there
trace-requires-clause-there c = (c.in-Some.ensures.some c.in-Some.hart refl).there
