use Rattle.std.proofs.Common.{arith}
use Rattle.cover_sweep.proofs.Times.{up_all, up_more, up_none, up_room}
use Rattle.cover_sweep.proofs.counting.count_hart.Goals as goal

pub loop-done-init : goal.loop-done-init
loop-done-init c = up_none c.args.totals.now c.args.trace.now

pub count_step-requires-clause-room : goal.count_step-requires-clause-room
count_step-requires-clause-room c =
    up_room c.args.totals.now c.loop-done.totals c.args.trace.now c.loop-done.done-index (omega arith) c.loop-done.invariant c.requires.room

pub loop-done-preserved : goal.loop-done-preserved
loop-done-preserved c =
    up_more c.args.totals.now c.loop-done.totals c.count_step.new.totals c.args.trace.now c.loop-done.done-index c.done-item.result c.done-item.result (omega arith) c.loop-done.invariant c.done-item.is c.count_step.ensures

pub returns : goal.returns
returns c = up_all c.args.totals.now c.loop-done.totals c.args.trace.now c.loop-done.done-index (omega arith) c.loop-done.invariant
