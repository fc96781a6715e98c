use Rattle.std.proofs.Common.{◌<◌, ◌+◌, ◌-◌, length, sym, ap, ◌∙◌, arith, Some}
use Rattle.std.proofs.lemmas.Result.{err_from_is_err_and}
use Rattle.tpl_lang.specs.PartReading.{outcome_part_at, list_of}
use Rattle.tpl_cursor.proofs.Lists.{with_front, goes_on, closes, other, stops_at}
use Rattle.tpl_cursor.proofs.cursor.Cursor.outcomes_list.Goals as goal

pub returns-in_err-outcome : goal.returns-in_err-outcome
returns-in_err-outcome c =
    let p = err_from_is_err_and c.from_residual.result c.from_residual.ensures.1 in
    let lt : c.loop.counter < length c.args.self.now = omega arith in
    rw (p.1, p.2) (stops_at outcome_part_at c.loop.outcomes.items (length c.args.self.now) c.loop.counter c.loop.self _ lt c.loop.invariant c.in_err-outcome.field-0.0 c.in_err-outcome.ensures)

pub returns-in-Close : goal.returns-in-Close
returns-in-Close c =
    let lt : c.loop.counter < length c.args.self.now = omega arith in
    let read = c.in_ok-outcome.ensures ∙ ap (λ m. Some ((c.in_ok-outcome.outcome, m), c.outcome_part.new.self)) c.in-Close.is in
    closes outcome_part_at c.loop.outcomes.items (length c.args.self.now) c.loop.counter c.loop.self _ lt c.loop.invariant c.in_ok-outcome.outcome c.outcome_part.new.self read
    ∙ ap (λ es. Some (es, c.outcome_part.new.self)) (sym c.in_ok-push.ensures.items)

pub returns-in_default : goal.returns-in_default
returns-in_default c =
    let lt : c.loop.counter < length c.args.self.now = omega arith in
    other outcome_part_at c.loop.outcomes.items (length c.args.self.now) c.loop.counter c.loop.self _ lt c.loop.invariant c.in_ok-outcome.outcome c.in_ok-outcome.behind c.outcome_part.new.self c.in_default.not-Close c.in_default.not-Comma c.in_ok-outcome.ensures

pub loop-preserved : goal.loop-preserved
loop-preserved c =
    let lt : c.loop.counter < length c.args.self.now = omega arith in
    let read = c.in_ok-outcome.ensures ∙ ap (λ m. Some ((c.in_ok-outcome.outcome, m), c.outcome_part.new.self)) c.in-Comma.is in
    ap (λ es. with_front es (list_of outcome_part_at (length c.args.self.now - (c.loop.counter + 1)) c.outcome_part.new.self)) c.in_ok-push.ensures.items
    ∙ goes_on outcome_part_at c.loop.outcomes.items (length c.args.self.now) c.loop.counter c.loop.self _ lt c.loop.invariant c.in_ok-outcome.outcome c.outcome_part.new.self read
