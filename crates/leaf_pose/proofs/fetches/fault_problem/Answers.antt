use Rattle.leaf_pose.proofs.Fetching.{fault_posed}
use Rattle.leaf_pose.proofs.fetches.fault_problem.Goals as goal

pub returns-clause-fault : goal.returns-clause-fault
returns-clause-fault c =
    fault_posed c.args.stand.now c.args.forms.now.first c.args.forms.now.second c.args.pairs c.args.ways.now c.args.draws.now c.args.causes.now c.fetch_pivots.result c.in_ok-head.head c.new-cases.result c.push.new.self c.push_faults.new.cases
    c.new-cases.ensures c.in_ok-push.ensures.ok c.fetch_pivots.ensures c.in_ok-head.ensures.first c.in_ok-push_faults.ensures
