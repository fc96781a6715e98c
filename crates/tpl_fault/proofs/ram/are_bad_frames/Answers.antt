use Rattle.std.proofs.Common.{◌++◌, ◌∙◌}
use Rattle.tpl_state.specs.Internal.State.{known}
use Rattle.tpl_fault.proofs.Frames.{next_frame}
use Rattle.tpl_fault.proofs.ram.are_bad_frames.Goals as goal

pub loop-i-preserved : goal.loop-i-preserved
loop-i-preserved c =
    let k = known c.args.state.now in
    next_frame k.ram (k.pool ++ k.tables) c.args.frames.now c.loop-i.i _ c.number.result c.loop-i-test.true c.number.ensures c.if-is_bad_frame.ensures ∙ c.loop-i.invariant
