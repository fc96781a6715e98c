use Rattle.data_goals.proofs.Operations.{goals_are_ways, ways_are_goals}
use Rattle.data_goals.proofs.laws.accesses_are_goals.Goals as goal

pub returns-clause-there : goal.returns-clause-there
returns-clause-there c = ways_are_goals

pub returns-clause-back : goal.returns-clause-back
returns-clause-back c = goals_are_ways
