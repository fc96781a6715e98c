-- A problem has one answer.
use Rattle.std.proofs.Common.{ℕ, ⊎_elim, refl, ap, arith}
use Rattle.fd_prob.specs.declared.problem.Problem.{Problem}
use Rattle.fd_solve.specs.declared.answers.Solved.TheVariants as answers
use Rattle.fd_solve.specs.Laws.{ArePivotsWords, HasOneAnswer}
use Rattle.fd_solve.proofs.StrictOrder.{strict_and_total}

pub one_answer : (p : Problem) (nodes : ℕ) → ArePivotsWords p → HasOneAnswer p nodes
one_answer p nodes words (answers.Found x) (answers.Found y) is other = ⊎_elim
    (λ before. absurd (other.1.least x is.1.words is.1.fitting before))
    (λ rest. ⊎_elim (λ same. ap answers.Found same) (λ after. absurd (is.1.least y other.1.words other.1.fitting after)) rest)
    (strict_and_total.total p x y words is.1.words other.1.words)
one_answer p nodes words (answers.Found x) answers.NoneFits is other = absurd (other.1 x is.1.words is.1.fitting)
one_answer p nodes words (answers.Found x) answers.Spent is other = absurd (omega (arith, is.0, other))
one_answer p nodes words answers.NoneFits (answers.Found y) is other = absurd (is.1 y other.1.words other.1.fitting)
one_answer p nodes words answers.NoneFits answers.NoneFits is other = refl
one_answer p nodes words answers.NoneFits answers.Spent is other = absurd (omega (arith, is.0, other))
one_answer p nodes words answers.Spent (answers.Found y) is other = absurd (omega (arith, is, other.0))
one_answer p nodes words answers.Spent answers.NoneFits is other = absurd (omega (arith, is, other.0))
one_answer p nodes words answers.Spent answers.Spent is other = refl
