use Rattle.std.proofs.Common.{◌≡◌, ◌<◌, true, length, slice_index}
use Rattle.dom_set.specs.Elements.{is_in}
use Rattle.fd_narrow.specs.Narrowing.{domain_in}
use Rattle.fd_prob.specs.declared.slot.Slot.{Slot}
use Rattle.fd_prob.specs.Slots.{slot_number}
use Rattle.case_search.proofs.search.lowest.Given as goal

abbrev pub invariant-loop-i : goal.invariant-loop-i
invariant-loop-i l = record {
  long : length l.values ≡ 14;
  inside : (s : Slot) → slot_number s < l.i → is_in (domain_in l.doms s) (slice_index l.values (slot_number s)) ≡ true;
}
