use Rattle.std.proofs.Common.{arith}
use Rattle.near_marks.proofs.Marking.{filled}
use Rattle.near_marks.proofs.Leaving.{filled_leaving}
use Rattle.near_marks.proofs.pairs.may_fill_gap.Goals as goal

pub returns-then-not-has_near_gap : goal.returns-then-not-has_near_gap
returns-then-not-has_near_gap c = λ none. filled c.args.marks.now c.args.firsts.now c.args.others.now c.hull-low.result.0 c.hull-low.result.1 c.hull-least.result.0 c.hull-least.result.1 c.saturating_add-low.result c.has_near_gap.result c.hull-low.ensures.around c.hull-least.ensures.around (omega (arith, c.saturating_add-low.ensures)) c.has_near_gap.ensures c.if-not-has_near_gap.true

pub returns : goal.returns
returns c = filled_leaving c.args.marks.now c.sums_of-rests.result c.rests_of-first_rests.result c.rests_of-other_rests.result c.args.firsts.now c.args.others.now c.hull-low.result.0 c.hull-low.result.1 c.hull-least.result.0 c.hull-least.result.1 c.saturating_add-low.result c.has_gap_leaving.result c.hull-low.ensures.around c.hull-least.ensures.around (omega (arith, c.saturating_add-low.ensures)) c.rests_of-first_rests.ensures c.rests_of-other_rests.ensures c.sums_of-rests.ensures c.has_gap_leaving.ensures

pub returns-then-leave_much : goal.returns-then-leave_much
returns-then-leave_much c = λ none. absurd (cc none)
