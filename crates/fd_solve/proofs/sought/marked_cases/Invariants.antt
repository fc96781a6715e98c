use Rattle.std.proofs.Common.{◌≡◌, ◌<◌, ℕ, get_or, length}
use Rattle.fd_prob.specs.declared.problem.Case.{Case}
use Rattle.fd_solve.specs.Internal.Equivalent.{StandsIn}
use Rattle.fd_solve.specs.Internal.Marks.{marked_case}
use Rattle.fd_solve.proofs.sought.marked_cases.Given as goal

abbrev pub invariant-loop-place : goal.invariant-loop-place
invariant-loop-place l = record {
  count : length l.made.items ≡ l.place;
  each : (n : ℕ) (c d : Case) → n < l.place → StandsIn (marked_case l.marks l.biases n (get_or l.cases n c)) (get_or l.made.items n d);
}
