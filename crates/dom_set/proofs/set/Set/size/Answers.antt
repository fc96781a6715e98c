use Rattle.std.proofs.Common.{◌^◌}
use Rattle.set_pieces.specs.Internal.Pieces.{holds}
use Rattle.set_pieces.proofs.Times.{total_fits}
use Rattle.dom_set.proofs.Sets.{size_is, ascending, words}
use Rattle.dom_set.proofs.set.Set.size.Goals as goal

pub returns-clause-size : goal.returns-clause-size
returns-clause-size c = rw (← c.self.view_is, c.count_below.ensures, c.deref.ensures.value) (size_is c.self.inside.pieces.items c.self.invariant)

pub returns-clause-most : goal.returns-clause-most
returns-clause-most c = rw (c.count_below.ensures, c.deref.ensures.value) (total_fits c.self.inside.pieces.items (2 ^ 32) c.self.invariant)

pub returns-clause-ascending : goal.returns-clause-ascending
returns-clause-ascending c = rw (← c.self.view_is) (ascending (holds c.self.inside.pieces.items))

pub returns-clause-words : goal.returns-clause-words
returns-clause-words c = rw (← c.self.view_is) (words (holds c.self.inside.pieces.items))
