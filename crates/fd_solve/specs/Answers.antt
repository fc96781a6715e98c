-- The answers of problems, over all assignments.
use Rattle.std.specs.Prelude.{◌≡◌, ℕ, ◌+◌, ◌<◌, ◌≤◌, Bool, true, false, List, [], ◌∷◌, ◌++◌}
use Rattle.fd_prob.specs.declared.problem.Assignment.{Assignment}
use Rattle.fd_prob.specs.declared.problem.Extra.{Extra}
use Rattle.fd_prob.specs.declared.problem.Problem.{Problem}
use Rattle.fd_prob.specs.Extras.{extended}
use Rattle.fd_prob.specs.Fitting.{fits}
use Rattle.fd_prob.specs.Order.{ComesBefore, IsAssignment}
use Rattle.fd_prob.specs.Spaces.{space}
use Rattle.fd_solve.specs.declared.answers.LeafAnswer.{LeafAnswer}
use Rattle.fd_solve.specs.declared.answers.Solved.{Solved}
use Rattle.fd_solve.specs.declared.answers.Solved.TheVariants as answers

-- the assignment fits the problem, and none that fits comes before it
pub record IsLeast (p : Problem) (x : Assignment) : Type 0 where
  pub words : IsAssignment x
  pub fitting : fits p x ≡ true
  pub least : (y : Assignment) → IsAssignment y → fits p y ≡ true → ComesBefore p y x → ⊥

-- no assignment fits the problem
abbrev pub NothingFits : Problem → Type 0
NothingFits p = (y : Assignment) → IsAssignment y → fits p y ≡ true → ⊥

-- the answer of a problem: that the budget is spent where the space exceeds it, and else the least assignment that fits, or that there is none
abbrev pub IsAnswer : Problem → ℕ → Solved → Type 0
IsAnswer p nodes (answers.Found x) = (space p ≤ nodes) × IsLeast p x
IsAnswer p nodes answers.NoneFits = (space p ≤ nodes) × NothingFits p
IsAnswer p nodes answers.Spent = nodes < space p

-- the problem with the biases that were kept so far, and the positions of those that were not, each with whether its answer was that the budget is spent
pub record Kept : Type 0 where
  pub problem : Problem
  pub dropped : List (ℕ × Bool)

-- a bias at a position is kept where the problem with it has an assignment for its answer, and else dropped
abbrev pub kept_by : Solved → ℕ → Extra → Kept → Kept
kept_by (answers.Found x) position e before = record { problem = extended e before.problem; dropped = before.dropped }
kept_by answers.NoneFits position e before = record { problem = before.problem; dropped = before.dropped ++ (position, false) ∷ [] }
kept_by answers.Spent position e before = record { problem = before.problem; dropped = before.dropped ++ (position, true) ∷ [] }

-- the biases from a position on are taken in order, each judged by the answer of the problem with it and those kept before it
abbrev pub AreTaken : ℕ → ℕ → List Extra → Kept → Kept → Type 0
AreTaken nodes position [] before after = after ≡ before
AreTaken nodes position (e ∷ es) before after =
    (answer : Solved) × IsAnswer (extended e before.problem) nodes answer × AreTaken nodes (position + 1) es (kept_by answer position e before) after

-- the answer is that of the problem with all kept biases, and the others are listed
abbrev pub IsLeafAnswer : Problem → List Extra → ℕ → LeafAnswer → Type 0
IsLeafAnswer p biases nodes answer =
    (kept : Problem) × AreTaken nodes 0 biases (record { problem = p; dropped = [] }) (record { problem = kept; dropped = answer.dropped }) × IsAnswer kept nodes answer.solved
