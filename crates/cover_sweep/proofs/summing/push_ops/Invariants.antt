use Rattle.std.proofs.Common.{◌≡◌, ◌++◌, take, string_bytes}
use Rattle.cover_sweep.specs.Summary.{ops_text}
use Rattle.cover_sweep.proofs.summing.push_ops.Given as goal

abbrev pub invariant-loop-count : goal.invariant-loop-count
invariant-loop-count l = string_bytes l.text ≡ string_bytes l.initial.text ++ ops_text (take l.count-index l.counts)
