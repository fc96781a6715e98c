use Rattle.std.proofs.Common.{◌≡◌, ◌++◌, drop}
use Rattle.tool_texts.proofs.Runs.{turns_of}
use Rattle.tool_texts.proofs.running.turns_of.Given as goal

abbrev pub invariant-loop-trace : goal.invariant-loop-trace
invariant-loop-trace l = l.turns.items ++ turns_of (drop l.trace-index l.traces) ≡ turns_of l.traces
