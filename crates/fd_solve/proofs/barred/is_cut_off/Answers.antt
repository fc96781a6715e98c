use Rattle.std.proofs.Common.{ℕ, List}
use Rattle.fd_prob.specs.declared.slot.Slot.{Slot}
use Rattle.fd_solve.specs.Internal.Meeting.{is_in_cut}
use Rattle.fd_solve.proofs.Barring.{not_all}
use Rattle.fd_solve.proofs.barred.is_cut_off.Goals as goal

pub returns-then-branch : goal.returns-then-branch
returns-then-branch c is x within =
    let i : ℕ = c.loop-slot.slot-index in
    let cut : Slot × List ℕ = c.loop-slot-item.result in
    not_all (is_in_cut x) c.args.cuts.now i cut c.loop-slot-test.true c.loop-slot-item.is (c.in_ok-misses.ensures c.if-branch.true x within)
