-- Problems and leaves have answers.
use Rattle.std.proofs.Common.{ℕ, ◌+◌, inl, inr, List, [], ◌∷◌, refl}
use Rattle.std.proofs.lemmas.Bool.{cases_lt}
use Rattle.fd_prob.specs.declared.problem.Extra.{Extra}
use Rattle.fd_prob.specs.Extras.{extended}
use Rattle.fd_prob.specs.Spaces.{space}
use Rattle.fd_solve.specs.Answers.{AreTaken, Kept, kept_by}
use Rattle.fd_solve.specs.Dropping.{LeafAnswersExist}
use Rattle.fd_solve.specs.Laws.{AnswersExist}
use Rattle.fd_solve.specs.declared.answers.Solved.TheVariants as answers
use Rattle.fd_solve.proofs.Existing.{least_or_none}

pub answers_exist : AnswersExist
answers_exist p nodes = elim (cases_lt nodes (space p)) [
  | inl spent ↦ (answers.Spent, spent)
  | inr within ↦ elim (least_or_none p) [
    | inl found ↦ (answers.Found found.0, (within, found.1))
    | inr none ↦ (answers.NoneFits, (within, none))
  ]
]

taken : (nodes n : ℕ) (es : List Extra) (before : Kept) → (after : Kept) × AreTaken nodes n es before after
taken nodes n [] before = (before, refl)
taken nodes n (e ∷ es) before =
    let answer = answers_exist (extended e before.problem) nodes in
    let rest = taken nodes (n + 1) es (kept_by answer.0 n e before) in
    (rest.0, (answer.0, answer.1, rest.1))

pub leaf_answers_exist : LeafAnswersExist
leaf_answers_exist p biases nodes =
    let all = taken nodes 0 biases (record { problem = p; dropped = [] }) in
    let answer = answers_exist all.0.problem nodes in
    (record { solved = answer.0; dropped = all.0.dropped }, (all.0.problem, all.1, answer.1))
