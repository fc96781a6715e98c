-- Which biases were kept, by those that are listed.
use Rattle.std.specs.Prelude.{◌≡◌, ℕ, ◌+◌, ◌==◌, Bool, if◌then◌else◌, List, [], ◌∷◌}
use Rattle.std.specs.List.{list_any}
use Rattle.fd_prob.specs.declared.problem.Extra.{Extra}
use Rattle.fd_prob.specs.declared.problem.Problem.{Problem}
use Rattle.fd_prob.specs.Extras.{extended}
use Rattle.fd_solve.specs.Answers.{AreTaken, IsAnswer, IsLeafAnswer, Kept}
use Rattle.fd_solve.specs.declared.answers.LeafAnswer.{LeafAnswer}

-- the bias at the position is listed
abbrev pub is_listed : List (ℕ × Bool) → ℕ → Bool
is_listed dropped position = list_any (λ d. d.0 == position) dropped

-- the biases that are not listed, in their order; the first one has this position
abbrev pub kept_from : ℕ → List Extra → List (ℕ × Bool) → List Extra
kept_from position [] dropped = []
kept_from position (e ∷ es) dropped = if is_listed dropped position then kept_from (position + 1) es dropped else e ∷ kept_from (position + 1) es dropped

-- the problem with what each of the biases adds to it, one after another
abbrev pub extended_by : List Extra → Problem → Problem
extended_by [] p = p
extended_by (e ∷ es) p = extended_by es (extended e p)

-- the problem that is left when all biases were taken is that with the biases that are not listed
abbrev pub KeptAreExtended : Type 0
KeptAreExtended = (p : Problem) (biases : List Extra) (nodes : ℕ) (kept : Kept) → AreTaken nodes 0 biases (record { problem = p; dropped = [] }) kept → kept.problem ≡ extended_by (kept_from 0 biases kept.dropped) p

-- each leaf has an answer under each budget
abbrev pub LeafAnswersExist : Type 0
LeafAnswersExist = (p : Problem) (biases : List Extra) (nodes : ℕ) → (answer : LeafAnswer) × IsLeafAnswer p biases nodes answer

-- the problem with the biases that an answer does not list
abbrev pub kept_problem : Problem → List Extra → LeafAnswer → Problem
kept_problem p biases answer = extended_by (kept_from 0 biases answer.dropped) p

-- what a leaf's answer says is the answer of the problem with the biases that it does not list
abbrev pub LeafAnswersAreOfKept : Type 0
LeafAnswersAreOfKept = (p : Problem) (biases : List Extra) (nodes : ℕ) (answer : LeafAnswer) → IsLeafAnswer p biases nodes answer → IsAnswer (kept_problem p biases answer) nodes answer.solved
