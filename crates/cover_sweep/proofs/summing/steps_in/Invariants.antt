use Rattle.std.proofs.Common.{◌≡◌, length, take}
use Rattle.std.specs.Prelude.{sum_by}
use Rattle.cover_sweep.proofs.summing.steps_in.Given as goal

abbrev pub invariant-loop-trace : goal.invariant-loop-trace
invariant-loop-trace l = l.steps ≡ sum_by (λ t. length t) (take l.trace-index l.traces)
