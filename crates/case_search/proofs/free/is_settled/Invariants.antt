use Rattle.std.proofs.Common.{◌≡◌, ◌≢◌, ◌<◌, true, length}
use Rattle.fd_narrow.specs.Narrowing.{domain_in}
use Rattle.fd_prob.specs.declared.slot.Slot.{Slot}
use Rattle.fd_prob.specs.Slots.{slot_number}
use Rattle.fd_prob.specs.Mentions.{mentions}
use Rattle.case_search.proofs.free.is_settled.Given as goal

abbrev pub invariant-loop-i : goal.invariant-loop-i
invariant-loop-i l = (t : Slot) → slot_number t < l.i → mentions l.rel t ≡ true → slot_number t ≢ slot_number l.slot → length (domain_in l.doms t) ≡ 1
