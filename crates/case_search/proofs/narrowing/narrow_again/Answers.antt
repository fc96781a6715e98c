use Rattle.case_search.proofs.Equivalence.{followed}
use Rattle.case_search.proofs.narrowing.narrow_again.Goals as goal

pub returns-then-has_several_rows : goal.returns-then-has_several_rows
returns-then-has_several_rows c = followed c.args.case c.in_ok-joined.joined c.in_ok-narrow.narrow c.in_ok-joined.ensures c.in_ok-narrow.ensures
