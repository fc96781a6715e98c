use Rattle.std.proofs.Common.{◌≡◌, ◌++◌, take, string_bytes}
use Rattle.trace_text.specs.Steps.{steps_text}
use Rattle.trace_text.proofs.steps.push_steps.Given as goal

abbrev pub invariant-loop-record : goal.invariant-loop-record
invariant-loop-record l = (l.step ≡ l.record-index) × (string_bytes l.text ≡ string_bytes l.initial.text ++ steps_text l.hart (take l.record-index l.records))
