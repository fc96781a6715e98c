use Rattle.std.proofs.Common.{◌≡◌, ◌++◌, take}
use Rattle.std.specs.List.{flat_map}
use Rattle.note_items.specs.Spelling.{trace_spelling}
use Rattle.note_items.proofs.writing.put_traces.Given as goal

abbrev pub invariant-loop-trace : goal.invariant-loop-trace
invariant-loop-trace l = l.out.items ≡ l.fn.out.items ++ flat_map trace_spelling (take l.trace-index l.traces)
