use Rattle.case_search.proofs.Equivalence.{least_equivalent}
use Rattle.case_search.proofs.solving.solve_again.Goals as goal

pub least_of-requires : goal.least_of-requires
least_of-requires c = c.in_ok-joined.ensures.whole

pub returns-then-has_several_rows : goal.returns-then-has_several_rows
returns-then-has_several_rows c = least_equivalent c.args.case.now c.in_ok-joined.joined c.in_ok-joined.ensures c.args.pivots.now c.in_ok-least.least c.in_ok-least.ensures
