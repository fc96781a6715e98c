use Rattle.std.proofs.Common.{sym}
use Rattle.dom_set.proofs.Sets.{has_is, is_in-elements}
use Rattle.set_pieces.specs.Internal.Pieces.{holds}
use Rattle.dom_set.proofs.set.Set.has.Goals as goal

pub returns-clause-element : goal.returns-clause-element
returns-clause-element c = rw (← c.self.view_is, c.any_has.ensures, c.deref.ensures.value) (has_is c.self.inside.pieces.items c.args.x c.ranges.x.fits)

pub returns-clause-test : goal.returns-clause-test
returns-clause-test c = rw (← c.self.view_is, c.any_has.ensures, c.deref.ensures.value) (sym (is_in-elements (holds c.self.inside.pieces.items) c.args.x c.ranges.x.fits))
