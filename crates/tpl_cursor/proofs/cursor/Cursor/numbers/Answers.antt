use Rattle.std.proofs.Common.{◌<◌, List, length, ap, ◌∙◌, arith}
use Rattle.std.proofs.lemmas.Result.{err_from_is_err_and}
use Rattle.tpl_lang.specs.declared.phrase.Numeral.{Numeral}
use Rattle.tpl_lang.specs.Reading.{more_numbers}
use Rattle.tpl_cursor.proofs.Lists.{behind, number_goes_on, number_stops}
use Rattle.tpl_cursor.proofs.cursor.Cursor.numbers.Goals as goal

pub returns-in_err-number : goal.returns-in_err-number
returns-in_err-number c =
    let p = err_from_is_err_and c.from_residual-in_err-number.result c.from_residual-in_err-number.ensures.1 in
    let left = c.loop.invariant.0 in
    let some : 0 < length c.loop.self = omega arith in
    rw (p.1, p.2) (number_stops c.loop.numbers.items c.loop.self _ c.loop.invariant.1 some c.in_err-number.field-0.0 c.in_err-number.ensures)

pub loop-preserved : goal.loop-preserved
loop-preserved c =
    let left = c.loop.invariant.0 in
    let on = number_goes_on c.loop.numbers.items c.loop.self _ c.loop.invariant.1 c.in_ok-number.number c.number-in-loop.new.self c.in_ok-number.ensures in
    let shorter = on.0 in
    (omega arith, ap (λ (ns : List Numeral). behind ns (more_numbers c.number-in-loop.new.self)) c.in_ok-push-2.ensures.items ∙ on.1)
