use Rattle.set_pieces.specs.Internal.Pieces.{holds}
use Rattle.dom_set.proofs.Sets.{ascending, words}
use Rattle.dom_set.proofs.set.Set.element_laws.Goals as goal

pub returns-clause-ascending : goal.returns-clause-ascending
returns-clause-ascending c = rw (← c.self.view_is) (ascending (holds c.self.inside.pieces.items))

pub returns-clause-words : goal.returns-clause-words
returns-clause-words c = rw (← c.self.view_is) (words (holds c.self.inside.pieces.items))
