use Rattle.std.proofs.Common.{take}
use Rattle.set_sums.specs.Internal.Near.{AreBackward}
use Rattle.set_sums.proofs.near.backward.Given as goal

abbrev pub invariant-loop-track : goal.invariant-loop-track
invariant-loop-track l = AreBackward (take l.track-index l.tracks) l.all.items
