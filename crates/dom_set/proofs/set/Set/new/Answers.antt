use Rattle.dom_set.specs.Elements.{elements_of, numbers_below}
use Rattle.dom_set.proofs.Sets.{nothing_passes}
use Rattle.dom_set.proofs.set.Set.new.Goals as goal

-- src/set.rt:35:5
pub returns : goal.returns
unfolding elements_of
returns c = rw (c.new.ensures.items) (nothing_passes (numbers_below _))
