use Rattle.std.proofs.Common.{◌≡◌, All, length}
use Rattle.solver_tests.proofs.biases.extras_of.Given as goal

abbrev pub invariant-loop-bias : goal.invariant-loop-bias
invariant-loop-bias l = All (λ e. length e.cases ≡ 2) l.extras.items
