use Rattle.leaf_link.proofs.Kept.{order_is_kept}
use Rattle.leaf_link.proofs.leaf_laws.order_is_kept.Goals as goal

pub returns : goal.returns
returns c = order_is_kept
