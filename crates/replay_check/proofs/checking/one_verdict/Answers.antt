use Rattle.replay_check.proofs.Verdicts.{valid_never, failure_once}
use Rattle.replay_check.proofs.checking.one_verdict.Goals as goal

pub returns-clause-valid : goal.returns-clause-valid
returns-clause-valid c = valid_never

pub returns-clause-one : goal.returns-clause-one
returns-clause-one c = failure_once
