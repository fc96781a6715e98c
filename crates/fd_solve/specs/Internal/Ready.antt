-- Cases that searches go on from.
use Rattle.std.specs.Prelude.{◌≡◌, ℕ, ◌≤◌, Bool, List, take, None}
use Rattle.fd_prob.specs.declared.problem.Extra.{Extra}
use Rattle.fd_prob.specs.declared.problem.Problem.{Problem}
use Rattle.fd_solve.specs.declared.ready.Ready.{Ready}
use Rattle.fd_solve.specs.Internal.Equivalent.{StandFor}
use Rattle.fd_solve.specs.Internal.Marks.{with_marked}

-- they are brought up to so many marks at most, stand for the cases of the problem with what its first marked biases add to it, and were made where they are brought up to any
pub record IsReady (p : Problem) (biases : List Extra) (marks : List Bool) (most : ℕ) (ready : Ready) : Type 0 where
  pub within : ready.from ≤ most
  pub narrow : StandFor (with_marked (take ready.from marks) biases p).cases ready.narrow
  pub idle : ready.narrow ≡ None → ready.from ≡ 0
