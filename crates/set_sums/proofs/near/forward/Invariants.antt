use Rattle.std.proofs.Common.{take}
use Rattle.set_sums.specs.Internal.Near.{AreForward}
use Rattle.set_sums.proofs.near.forward.Given as goal

abbrev pub invariant-loop-track : goal.invariant-loop-track
invariant-loop-track l = AreForward (take l.track-index l.tracks) l.all.items
