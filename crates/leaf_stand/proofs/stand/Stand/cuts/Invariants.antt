use Rattle.std.proofs.Common.{◌≡◌, ℕ, ◌<◌, ◌^◌, ◌&&◌, drop}
use Rattle.fd_prob.specs.declared.slot.Slot.{Slot}
use Rattle.fd_prob.specs.declared.slot.TheConstants.{SLOTS}
use Rattle.leaf_link.specs.Extras.{passes_cuts}
use Rattle.leaf_stand.specs.Internal.Cuts.{cuts_of}
use Rattle.leaf_stand.proofs.stand.Stand.cuts.Given as goal

abbrev pub invariant-loop-slot : goal.invariant-loop-slot
invariant-loop-slot l = (r : Slot) (v : ℕ) → v < 2 ^ 32 → (passes_cuts l.cuts r v && cuts_of l.self l.bias (drop l.slot-index SLOTS) r v) ≡ cuts_of l.self l.bias SLOTS r v
