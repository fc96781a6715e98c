use Rattle.leaf_pose.proofs.Fetching.{fetch_pivots_are}
use Rattle.leaf_pose.proofs.fetches.fetch_pivots.Goals as goal

pub returns : goal.returns
returns c = fetch_pivots_are c.args.draws.now
