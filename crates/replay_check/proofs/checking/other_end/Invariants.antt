use Rattle.std.proofs.Common.{ℕ, ◌<◌}
use Rattle.tpl_admit.specs.Validity.{EndsAsPrinted}
use Rattle.replay_check.proofs.checking.other_end.Given as goal

abbrev pub invariant-loop-k : goal.invariant-loop-k
invariant-loop-k l = (j : ℕ) → j < l.k → EndsAsPrinted l.cert j
