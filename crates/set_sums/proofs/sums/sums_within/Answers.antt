use Rattle.set_sums.proofs.Members.{only_in}
use Rattle.set_sums.proofs.Wanted.{sums_wanted}
use Rattle.set_sums.proofs.Spans.{sums_by_shift, sums_turned}
use Rattle.set_sums.proofs.sums.sums_within.Goals as goal

pub returns-in-Some : goal.returns-in-Some
returns-in-Some c v w h k d = sums_by_shift c.args.first.now c.args.second.now c.in_ok-sums.sums c.in-Some.x c.element_laws.ensures.words c.element_laws-2.ensures.words (only_in c.args.second.now c.in-Some.x c.in-Some.ensures) c.in_ok-sums.ensures v w h k

pub returns-in-Some-only : goal.returns-in-Some-only
returns-in-Some-only c v w h k d = sums_turned c.args.first.now c.args.second.now c.in_ok-sums-2.sums
    (sums_by_shift c.args.second.now c.args.first.now c.in_ok-sums-2.sums c.in-Some-only.x c.element_laws-2.ensures.words c.element_laws.ensures.words (only_in c.args.first.now c.in-Some-only.x c.in-Some-only.ensures) c.in_ok-sums-2.ensures) v w h k

pub returns : goal.returns
returns c = sums_wanted c.args.first.now c.args.second.now c.args.domain.now c.in_ok-sums-3.sums c.in_ok-sums-3.ensures
