use Rattle.std.proofs.Common.{◌<◌, ◌+◌, ◌-◌, length, sym, ap, ◌∙◌, arith, Some}
use Rattle.std.proofs.lemmas.Result.{err_from_is_err_and}
use Rattle.tpl_lang.specs.PartReading.{element_at, elements_at}
use Rattle.tpl_cursor.proofs.Lists.{with_front, goes_on, closes, other, stops_at}
use Rattle.tpl_cursor.proofs.cursor.Cursor.elements.Goals as goal

pub returns-in_err-element : goal.returns-in_err-element
returns-in_err-element c =
    let p = err_from_is_err_and c.from_residual.result c.from_residual.ensures.1 in
    let lt : c.loop.counter < length c.args.self.now = omega arith in
    rw (p.1, p.2) (stops_at element_at c.loop.elements.items (length c.args.self.now) c.loop.counter c.loop.self _ lt c.loop.invariant c.in_err-element.field-0.0 c.in_err-element.ensures)

pub returns-in-Close : goal.returns-in-Close
returns-in-Close c =
    let lt : c.loop.counter < length c.args.self.now = omega arith in
    let read = c.in_ok-element.ensures ∙ ap (λ m. Some ((c.in_ok-element.element, m), c.element.new.self)) c.in-Close.is in
    closes element_at c.loop.elements.items (length c.args.self.now) c.loop.counter c.loop.self _ lt c.loop.invariant c.in_ok-element.element c.element.new.self read
    ∙ ap (λ es. Some (es, c.element.new.self)) (sym c.in_ok-push.ensures.items)

pub returns-in_default : goal.returns-in_default
returns-in_default c =
    let lt : c.loop.counter < length c.args.self.now = omega arith in
    other element_at c.loop.elements.items (length c.args.self.now) c.loop.counter c.loop.self _ lt c.loop.invariant c.in_ok-element.element c.in_ok-element.behind c.element.new.self c.in_default.not-Close c.in_default.not-Comma c.in_ok-element.ensures

pub loop-preserved : goal.loop-preserved
loop-preserved c =
    let lt : c.loop.counter < length c.args.self.now = omega arith in
    let read = c.in_ok-element.ensures ∙ ap (λ m. Some ((c.in_ok-element.element, m), c.element.new.self)) c.in-Comma.is in
    ap (λ es. with_front es (elements_at (length c.args.self.now - (c.loop.counter + 1)) c.element.new.self)) c.in_ok-push.ensures.items
    ∙ goes_on element_at c.loop.elements.items (length c.args.self.now) c.loop.counter c.loop.self _ lt c.loop.invariant c.in_ok-element.element c.element.new.self read
