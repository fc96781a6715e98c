use Rattle.std.proofs.Common.{string_bytes}
use Rattle.trace_text.proofs.Counted.{AreWritten}
use Rattle.trace_text.proofs.runs.push_events.Given as goal

abbrev pub invariant-loop-event : goal.invariant-loop-event
invariant-loop-event l = AreWritten (string_bytes l.fn.text) l.events l.event-index (string_bytes l.text) l.counts.steps
