use Rattle.case_search.proofs.Equivalence.{alike_equivalent, followed}
use Rattle.case_search.proofs.Joining.{restated}
use Rattle.case_search.proofs.narrowing.with_joined_rows.Goals as goal

pub returns : goal.returns
returns c =
    let possible = c.in_ok-possible.possible in
    let joined = c.in_ok-joined.joined in
    followed c.args.case.now possible joined c.in_ok-possible.ensures (alike_equivalent possible joined c.in_ok-possible.ensures.whole (restated possible joined c.in_ok-joined.ensures))
