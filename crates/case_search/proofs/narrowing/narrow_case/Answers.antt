use Rattle.case_search.proofs.Equivalence.{followed}
use Rattle.case_search.proofs.narrowing.narrow_case.Goals as goal

pub returns : goal.returns
returns c = followed c.args.case.now c.in_ok-joined.joined c.in_ok-narrow.narrow c.in_ok-joined.ensures (followed c.in_ok-joined.joined c.in_ok-strong.strong c.in_ok-narrow.narrow c.in_ok-strong.ensures c.in_ok-narrow.ensures)
