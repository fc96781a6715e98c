-- Biases while they are taken one after another.
use Rattle.std.specs.Prelude.{◌≡◌, ℕ, List, length}
use Rattle.fd_prob.specs.declared.problem.Extra.{Extra}
use Rattle.fd_prob.specs.declared.problem.Problem.{Problem}
use Rattle.fd_prob.specs.Extras.{extended}
use Rattle.fd_prob.specs.Fitting.{IsProblem}
use Rattle.fd_solve.specs.declared.answers.Solved.{Solved}
use Rattle.fd_solve.specs.declared.leaf.Taken.{Taken}
use Rattle.fd_solve.specs.Answers.{IsAnswer, Kept, kept_by}
use Rattle.fd_solve.specs.Internal.Known.{IsKnown}
use Rattle.fd_solve.specs.Internal.Marks.{HasFirstsOf, base_of, with_marked}
use Rattle.fd_solve.specs.Internal.Ready.{IsReady}

abbrev pub kept_of : Problem → List Extra → Taken → Kept
kept_of p biases taken = record { problem = with_marked taken.marks.items biases p; dropped = taken.dropped }

-- what stands for the first cases of the problem with the kept biases is right, and so are what is known of that problem and what searches of it go on from
pub record IsTold (p : Problem) (biases : List Extra) (nodes : ℕ) (taken : Taken) : Type 0 where
  pub base : IsProblem (base_of taken.firsts p)
  pub firsts : HasFirstsOf (with_marked taken.marks.items biases p) (base_of taken.firsts p)
  pub known : IsKnown (with_marked taken.marks.items biases p) nodes taken.known
  pub ready : IsReady p biases taken.marks.items (length taken.marks.items) taken.ready

-- one bias was taken
abbrev pub IsTakenBy : ℕ → ℕ → Extra → Kept → Kept → Type 0
IsTakenBy nodes position e before after =
    (answer : Solved) × IsAnswer (extended e before.problem) nodes answer × (after ≡ kept_by answer position e before)
