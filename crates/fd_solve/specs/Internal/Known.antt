-- What is known of problems.
use Rattle.std.specs.Prelude.{ℕ, ◌≤◌, Bool, true, false, Option, Some, None}
use Rattle.fd_prob.specs.declared.problem.Assignment.{Assignment}
use Rattle.fd_prob.specs.declared.problem.Problem.{Problem}
use Rattle.fd_prob.specs.Spaces.{space}
use Rattle.fd_solve.specs.declared.answers.Solved.TheVariants as answers
use Rattle.fd_solve.specs.declared.known.Known.{Known}
use Rattle.fd_solve.specs.declared.known.Known.TheVariants.{Answer, Fits}
use Rattle.fd_solve.specs.Answers.{IsAnswer}
use Rattle.fd_solve.specs.Internal.Operations.{IsFitting}

-- it is known of the problem
abbrev pub IsKnown : Problem → ℕ → Known → Type 0
IsKnown p nodes (Answer solved) = IsAnswer p nodes solved
IsKnown p nodes (Fits x) = (space p ≤ nodes) × IsFitting p x

-- it is known that nothing fits
abbrev pub has_none : Known → Bool
has_none (Answer (answers.Found x)) = false
has_none (Answer answers.NoneFits) = true
has_none (Answer answers.Spent) = false
has_none (Fits x) = false

-- the assignment that is known to fit, if one is
abbrev pub fitting_of : Known → Option Assignment
fitting_of (Answer (answers.Found x)) = Some x
fitting_of (Answer answers.NoneFits) = None
fitting_of (Answer answers.Spent) = None
fitting_of (Fits x) = Some x

-- a bias with which it is known is kept, or dropped, with whether the budget was spent
abbrev pub dropping : Known → Option Bool
dropping (Answer (answers.Found x)) = None
dropping (Answer answers.NoneFits) = Some false
dropping (Answer answers.Spent) = Some true
dropping (Fits x) = None

-- it is known that the budget was spent
abbrev pub was_spent : Known → Bool
was_spent (Answer (answers.Found x)) = false
was_spent (Answer answers.NoneFits) = false
was_spent (Answer answers.Spent) = true
was_spent (Fits x) = false
