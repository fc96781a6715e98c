use Rattle.std.proofs.Common.{◌≡◌, ◌<◌, length, slice_index}
use Rattle.fd_prob.specs.declared.slot.Slot.{Slot}
use Rattle.fd_prob.specs.Fitting.{domain_of}
use Rattle.fd_prob.specs.Order.{draw_of, picked}
use Rattle.fd_prob.specs.Slots.{slot_number}
use Rattle.fd_solve.proofs.pivots.pivots_in.Given as goal

abbrev pub invariant-loop-i : goal.invariant-loop-i
invariant-loop-i l = record {
  long : length l.pivots ≡ 14;
  operation : slice_index l.pivots 0 ≡ l.pivot;
  others : (s : Slot) → 0 < slot_number s → slot_number s < l.i → slice_index l.pivots (slot_number s) ≡ picked (draw_of l.p s) (domain_of l.first s);
}
