use Rattle.std.proofs.Common.{◌-◌, length}
use Rattle.set_pieces.specs.Internal.Pieces.{AreAlive}
use Rattle.dom_set.proofs.combined.next_place.Given as goal

abbrev pub invariant-loop-alive : goal.invariant-loop-alive
invariant-loop-alive l = AreAlive l.pieces l.next l.alive.items l.from

abbrev pub decreases-loop-alive : goal.decreases-loop-alive
decreases-loop-alive l = length l.pieces - l.next
