use Rattle.std.proofs.Common.{arith, ◌≡◌, ◌+◌, string_bytes}
use Rattle.trace_text.proofs.Numbered.{steps_more}
use Rattle.trace_text.proofs.steps.push_steps.Goals as goal

pub loop-record-preserved : goal.loop-record-preserved
loop-record-preserved c =
    let counted : c.loop-record.step + 1 ≡ c.loop-record.record-index + 1 = omega arith in
    let more = steps_more c.args.hart (string_bytes c.args.text.now) c.args.records.now c.loop-record.record-index c.record-item.result (omega arith) in
    let was = c.loop-record.invariant in
    let pushed = c.in_ok-push_step.ensures in
    (counted, cc (more, was.0, was.1, pushed, c.record-item.is))
