use Rattle.case_search.proofs.Equivalence.{alike_equivalent}
use Rattle.case_search.proofs.narrowing.with_more.Goals as goal

pub returns-then-can_be_stronger : goal.returns-then-can_be_stronger
returns-then-can_be_stronger c = alike_equivalent c.args.case c.in_ok-stronger.stronger c.requires c.in_ok-stronger.ensures.alike
