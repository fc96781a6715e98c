use Rattle.foot_map.proofs.Races.{by_table, fewer}
use Rattle.foot_map.proofs.laws.race_laws.Goals as goal

pub returns-clause-table : goal.returns-clause-table
returns-clause-table c = by_table

pub returns-clause-fewer : goal.returns-clause-fewer
returns-clause-fewer c = fewer
