use Rattle.std.proofs.Common.{◌<◌, ◌+◌, ◌-◌, length, sym, ap, ◌∙◌, arith, Some, refl, false}
use Rattle.std.proofs.lemmas.Result.{err_from_is_err_and}
use Rattle.std.proofs.lemmas.List.{map_push}
use Rattle.std.specs.Bool.{IsTrue}
use Rattle.tpl_token.specs.Internal.Phrases.{wish_view, wishes_view}
use Rattle.tpl_lang.specs.PartReading.{some_wishes}
use Rattle.tpl_cursor.proofs.Lists.{behind, semicolon_stops, wish_stops, wishes_end, wishes_go_on}
use Rattle.tpl_cursor.proofs.cursor.Cursor.some_wishes.Goals as goal

differ : IsTrue false → ⊥
differ h = cc

pub returns-in_err-wish : goal.returns-in_err-wish
returns-in_err-wish c =
    let p = err_from_is_err_and c.from_residual.result c.from_residual.ensures.1 in
    let lt : c.loop.counter < length c.args.self.now = omega arith in
    rw (p.1, p.2) (wish_stops (wishes_view c.loop.wishes.items) (length c.args.self.now) c.loop.counter c.loop.self _ lt c.loop.invariant c.in_err-wish.field-0.0 c.in_err-wish.ensures)

pub returns-then-is_empty : goal.returns-then-is_empty
returns-then-is_empty c =
    let lt : c.loop.counter < length c.args.self.now = omega arith in
    let pushed = ap wishes_view c.in_ok-push.ensures.items ∙ map_push wish_view c.loop.wishes.items c.in_ok-wish.wish in
    let none = c.if-is_empty.ensures.0 refl in
    wishes_end (wishes_view c.loop.wishes.items) (length c.args.self.now) c.loop.counter c.loop.self _ lt c.loop.invariant (wish_view c.in_ok-wish.wish) c.wish.new.self c.in_ok-wish.ensures none
    ∙ ap (λ ws. Some ws) (sym pushed)

pub returns-in_err-semicolon : goal.returns-in_err-semicolon
returns-in_err-semicolon c =
    let p = err_from_is_err_and c.from_residual-in_err-semicolon.result c.from_residual-in_err-semicolon.ensures.1 in
    let lt : c.loop.counter < length c.args.self.now = omega arith in
    rw (p.1, p.2) (semicolon_stops (wishes_view c.loop.wishes.items) (length c.args.self.now) c.loop.counter c.loop.self _ lt c.loop.invariant (wish_view c.in_ok-wish.wish) c.wish.new.self c.in_ok-wish.ensures (λ none. differ (c.if-is_empty.ensures.1 none)) c.in_err-semicolon.field-0.0 c.in_err-semicolon.ensures)

pub loop-preserved : goal.loop-preserved
loop-preserved c =
    let lt : c.loop.counter < length c.args.self.now = omega arith in
    let pushed = ap wishes_view c.in_ok-push.ensures.items ∙ map_push wish_view c.loop.wishes.items c.in_ok-wish.wish in
    ap (λ ws. behind ws (some_wishes (length c.args.self.now - (c.loop.counter + 1)) c.semicolon.new.self)) pushed
    ∙ wishes_go_on (wishes_view c.loop.wishes.items) (length c.args.self.now) c.loop.counter c.loop.self _ lt c.loop.invariant (wish_view c.in_ok-wish.wish) c.wish.new.self c.semicolon.new.self c.in_ok-wish.ensures (λ none. differ (c.if-is_empty.ensures.1 none)) c.in_ok-semicolon.ensures
