use Rattle.foot_map.proofs.Blocking.{blocked, no_race}
use Rattle.foot_map.proofs.laws.blocking_laws.Goals as goal

pub returns-clause-blocked : goal.returns-clause-blocked
returns-clause-blocked c = blocked

pub returns-clause-races : goal.returns-clause-races
returns-clause-races c = no_race
