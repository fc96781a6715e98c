use Rattle.std.proofs.Common.{ℕ, ◌<◌, get_or}
use Rattle.fd_prob.specs.declared.problem.Case.{Case}
use Rattle.fd_solve.specs.Laws.{HasWordPicks}
use Rattle.fd_solve.proofs.pivots.all_picks_are_words.Given as goal

abbrev pub invariant-loop-case : goal.invariant-loop-case
invariant-loop-case l = (k : ℕ) (d : Case) → k < l.case-index → HasWordPicks l.p (get_or l.cases k d)
