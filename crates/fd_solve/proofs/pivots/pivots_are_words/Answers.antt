use Rattle.std.proofs.Common.{All, List, subst}
use Rattle.fd_prob.specs.declared.problem.Case.{Case}
use Rattle.fd_solve.specs.Laws.{HasWordPicks}
use Rattle.fd_solve.proofs.PivotWords.{pivots_words}
use Rattle.fd_solve.proofs.pivots.pivots_are_words.Goals as goal

pub returns : goal.returns
returns c = pivots_words c.args.p.now c.requires (subst (λ (cs : List Case). All (HasWordPicks c.args.p.now) cs) c.as_slice.ensures c.all_picks_are_words.ensures)
