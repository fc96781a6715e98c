use Rattle.set_sums.proofs.Members.{only_in}
use Rattle.set_sums.proofs.Spans.{differences_by_shift}
use Rattle.set_sums.proofs.Wanted.{differences_wanted}
use Rattle.set_sums.proofs.sums.differences_within.Goals as goal

pub returns-in-Some : goal.returns-in-Some
returns-in-Some c = differences_by_shift c.args.first.now c.args.second.now c.args.domain.now c.in_ok-differences.differences c.in-Some.x c.element_laws.ensures.words (only_in c.args.second.now c.in-Some.x c.in-Some.ensures) c.in_ok-differences.ensures

pub returns : goal.returns
returns c = differences_wanted c.args.first.now c.args.second.now c.args.domain.now c.in_ok-differences-2.differences c.element_laws.ensures.words c.in_ok-differences-2.ensures
