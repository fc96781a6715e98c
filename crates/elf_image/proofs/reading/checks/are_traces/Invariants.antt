use Rattle.std.proofs.Common.{◌≡◌, min, take, length}
use Rattle.std.specs.Prelude.{sum_by}
use Rattle.elf_image.proofs.reading.checks.are_traces.Given as goal

abbrev pub invariant-loop-trace : goal.invariant-loop-trace
invariant-loop-trace l = l.total ≡ min (sum_by (λ t. length t) (take l.trace-index l.traces)) 8193
