use Rattle.leaf_pose.proofs.Fetching.{fetch_posed}
use Rattle.leaf_pose.proofs.fetches.fetch_problem.Goals as goal

pub returns-clause-fetch : goal.returns-clause-fetch
returns-clause-fetch c =
    fetch_posed c.args.stand.now c.args.forms.now.first c.args.forms.now.second c.args.pairs c.args.ways.now c.args.draws.now c.fetch_pivots.result c.in_ok-head.head c.new-cases.result c.push.new.self c.push_fetches.new.cases
    c.new-cases.ensures c.in_ok-push.ensures.ok c.fetch_pivots.ensures c.in_ok-head.ensures.first c.in_ok-push_fetches.ensures
