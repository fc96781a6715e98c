use Rattle.std.proofs.Common.{◌≡◌, ◌++◌, take, string_bytes}
use Rattle.trace_text.specs.Steps.{accesses_text}
use Rattle.trace_text.proofs.steps.push_accesses.Given as goal

abbrev pub invariant-loop-access : goal.invariant-loop-access
invariant-loop-access l = string_bytes l.text ≡ string_bytes l.initial.text ++ accesses_text (take l.access-index l.accesses)
