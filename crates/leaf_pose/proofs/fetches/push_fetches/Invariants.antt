use Rattle.std.proofs.Common.{List, drop}
use Rattle.fd_prob.specs.declared.problem.Case.{Case as ACase}
use Rattle.leaf_pose.specs.Fetches.{AddsCases, cases_by, fetch_end}
use Rattle.leaf_stand.specs.Stands.{turn_of}
use Rattle.leaf_pose.proofs.fetches.push_fetches.Given as goal

abbrev pub invariant-loop-way : goal.invariant-loop-way
invariant-loop-way l = (end : List ACase) → AddsCases l.cases end (cases_by fetch_end (turn_of l.stand) (drop l.way-index l.ways)) → AddsCases l.fn.cases end (cases_by fetch_end (turn_of l.stand) l.ways)
