use Rattle.std.proofs.Common.{◌≡◌, ◌*◌}
use Rattle.lane_bits.specs.Pages.{bit}
use Rattle.lane_bits.proofs.Members.{passing}
use Rattle.lane_bits.proofs.page.PageBits.count.Given as goal

abbrev pub invariant-loop-word : goal.invariant-loop-word
invariant-loop-word l = l.total ≡ passing (bit l.word-items) (l.word-index * 64)
