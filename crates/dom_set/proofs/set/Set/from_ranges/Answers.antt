use Rattle.dom_set.proofs.Sets.{elements_same}
use Rattle.dom_set.proofs.set.Set.from_ranges.Goals as goal

pub returns : goal.returns
returns c = elements_same _ _ c.in_ok-pieces.ensures.held
