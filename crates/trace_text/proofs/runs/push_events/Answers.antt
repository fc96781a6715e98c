use Rattle.std.proofs.Common.{string_bytes, arith}
use Rattle.trace_text.proofs.Counted.{all_counted, all_written, none_written, one_written}
use Rattle.trace_text.proofs.runs.push_events.Goals as goal

pub loop-event-init : goal.loop-event-init
loop-event-init c = none_written (string_bytes c.args.text.now) c.args.events.now c.args.counts.now.steps c.requires

pub push_event-requires : goal.push_event-requires
push_event-requires c = omega (arith, c.loop-event.invariant.few c.event-item.result.0, c.loop-event-test.true)

pub loop-event-preserved : goal.loop-event-preserved
loop-event-preserved c =
    one_written (string_bytes c.args.text.now) c.args.events.now c.loop-event.event-index (string_bytes c.loop-event.text) (string_bytes c.push_event.new.text) c.loop-event.counts.steps c.push_event.new.counts.steps c.event-item.result
    c.loop-event-test.true c.event-item.is c.loop-event.invariant c.push_event.ensures.size c.push_event.ensures.hart c.in_ok-push_event.ensures.text c.in_ok-push_event.ensures.counts

pub returns-clause-text : goal.returns-clause-text
returns-clause-text c = all_written (string_bytes c.args.text.now) c.args.events.now c.loop-event.event-index (string_bytes c.loop-event.text) c.loop-event.counts.steps (omega (arith, c.loop-event-test.false)) c.loop-event.invariant

pub returns-clause-counts : goal.returns-clause-counts
returns-clause-counts c = all_counted (string_bytes c.args.text.now) c.args.events.now c.loop-event.event-index (string_bytes c.loop-event.text) c.loop-event.counts.steps (omega (arith, c.loop-event-test.false)) c.loop-event.invariant
