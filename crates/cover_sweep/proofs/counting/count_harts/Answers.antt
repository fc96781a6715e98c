use Rattle.std.proofs.Common.{◌∙◌, arith}
use Rattle.cover_sweep.proofs.Times.{up_by_all, up_by_more, up_by_none, up_by_room}
use Rattle.cover_sweep.proofs.counting.count_harts.Goals as goal

pub loop-trace-init : goal.loop-trace-init
loop-trace-init c = up_by_none c.args.totals.now c.args.traces.now

pub count_hart-requires-clause-room : goal.count_hart-requires-clause-room
count_hart-requires-clause-room c =
    up_by_room c.args.totals.now c.loop-trace.totals c.args.traces.now c.loop-trace.trace-index c.trace-item.result c.as_slice.result.now (omega arith) c.loop-trace.invariant (c.as_slice.ensures ∙ c.trace-item.is) c.requires.room

pub loop-trace-preserved : goal.loop-trace-preserved
loop-trace-preserved c =
    up_by_more c.args.totals.now c.loop-trace.totals c.count_hart.new.totals c.args.traces.now c.loop-trace.trace-index c.trace-item.result c.as_slice.result.now (omega arith) c.loop-trace.invariant (c.as_slice.ensures ∙ c.trace-item.is)
    c.count_hart.ensures

pub returns : goal.returns
returns c = up_by_all c.args.totals.now c.loop-trace.totals c.args.traces.now c.loop-trace.trace-index (omega arith) c.loop-trace.invariant
