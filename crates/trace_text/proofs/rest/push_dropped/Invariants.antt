use Rattle.std.proofs.Common.{◌≡◌, ◌++◌, take, string_bytes}
use Rattle.trace_text.specs.Rest.{dropped_text}
use Rattle.trace_text.proofs.rest.push_dropped.Given as goal

abbrev pub invariant-loop-one : goal.invariant-loop-one
invariant-loop-one l = string_bytes l.text ≡ string_bytes l.initial.text ++ dropped_text (take l.one-index l.dropped)
