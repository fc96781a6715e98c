use Rattle.leaf_pose.proofs.Accesses.{small_sources}
use Rattle.leaf_pose.proofs.csrs.has_few_sources.Goals as goal

pub returns : goal.returns
returns c = small_sources c.args.stand.now.sources.now c.size.result c.size.ensures.ascending c.size.ensures.words c.size.ensures.size
