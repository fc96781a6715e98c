use Rattle.dom_set.proofs.Tells.{bits_of_elements}
use Rattle.dom_set.proofs.set.Set.bits_under.Goals as goal

pub returns : goal.returns
returns c = rw (← c.self.view_is) (bits_of_elements c.self.inside.pieces.items c.args.mask c.bits_under.result (rw c.deref.ensures.value at c.bits_under.ensures))
