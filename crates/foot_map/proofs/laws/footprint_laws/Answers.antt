use Rattle.foot_map.proofs.Races.{empty, same, added, joins, races}
use Rattle.foot_map.proofs.laws.footprint_laws.Goals as goal

pub returns-clause-empty : goal.returns-clause-empty
returns-clause-empty c = empty

pub returns-clause-same : goal.returns-clause-same
returns-clause-same c = same

pub returns-clause-added : goal.returns-clause-added
returns-clause-added c = added

pub returns-clause-joins : goal.returns-clause-joins
returns-clause-joins c = joins

pub returns-clause-races : goal.returns-clause-races
returns-clause-races c = races
