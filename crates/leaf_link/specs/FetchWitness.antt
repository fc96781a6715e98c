-- Problems of a solver for a fetch and for a `fault` leaf, with answers.
use Rattle.std.specs.Prelude.{◌^◌, List}
use Rattle.fd_prob.specs.declared.problem.Assignment.{Assignment}
use Rattle.fd_prob.specs.declared.problem.Problem.{Problem}
use Rattle.fd_solve.specs.declared.answers.Solved.TheVariants as answers
use Rattle.fd_solve.specs.Answers.{IsAnswer}
use Rattle.leaf_link.specs.Cases.{Case}
use Rattle.leaf_link.specs.Answers.{IsProblemOf}
use Rattle.leaf_link.specs.FetchRows.{AreFetchRows, fetch_cases}
use Rattle.leaf_link.specs.FaultRows.{fault_cases}
use Rattle.leaf_link.specs.FetchAnswers.{IsFetchProblem}
use Rattle.leaf_link.specs.WalkWitnesses.{fetch_page_rows, fetch_turn, page_fault}
use Rattle.leaf_link.specs.BiasWitness.{no_draws}

-- a problem of the turn's fetch that has these cases, with an assignment for its answer
pub record IsAnsweredFetch (cases : List Case) : Type 0 where
  pub problem : Problem
  pub assignment : Assignment
  pub is_fetch : IsFetchProblem fetch_turn no_draws problem
  pub has_cases : IsProblemOf problem cases
  pub answered : IsAnswer problem (2 ^ 26) (answers.Found assignment)

-- the premises of the laws on answers of fetches are met together
pub record HaveAnsweredFetches : Type 0 where
  pub rows : AreFetchRows fetch_turn fetch_page_rows
  pub fetch : IsAnsweredFetch (fetch_cases fetch_turn fetch_page_rows)
  pub fault : IsAnsweredFetch (fault_cases fetch_turn page_fault fetch_page_rows)
