use Rattle.std.proofs.Common.{ℕ, ◌<◌, ◌+◌, ◌-◌, List, length, sym, ap, ◌∙◌, arith, Some}
use Rattle.std.proofs.lemmas.Result.{err_from_is_err_and}
use Rattle.std.proofs.lemmas.List.{map_push}
use Rattle.std.specs.Borrow.{Bor}
use Rattle.tpl_token.specs.Internal.Phrases.{words_view}
use Rattle.tpl_lang.specs.PartReading.{word_part_at, list_of}
use Rattle.tpl_cursor.proofs.Lists.{with_front, goes_on, closes, other, stops_at}
use Rattle.tpl_cursor.proofs.cursor.Cursor.words.Goals as goal

pub returns-in_err-word : goal.returns-in_err-word
returns-in_err-word c =
    let p = err_from_is_err_and c.from_residual.result c.from_residual.ensures.1 in
    let lt : c.loop.counter < length c.args.self.now = omega arith in
    rw (p.1, p.2) (stops_at word_part_at (words_view c.loop.words.items) (length c.args.self.now) c.loop.counter c.loop.self _ lt c.loop.invariant c.in_err-word.field-0.0 c.in_err-word.ensures)

pub returns-in-Close : goal.returns-in-Close
returns-in-Close c =
    let lt : c.loop.counter < length c.args.self.now = omega arith in
    let pushed = ap words_view c.in_ok-push.ensures.items ∙ map_push (λ (w : Bor (List ℕ)). w.now) c.loop.words.items c.in_ok-word.word in
    let read = c.in_ok-word.ensures ∙ ap (λ m. Some ((c.in_ok-word.word.now, m), c.word_part.new.self)) c.in-Close.is in
    closes word_part_at (words_view c.loop.words.items) (length c.args.self.now) c.loop.counter c.loop.self _ lt c.loop.invariant c.in_ok-word.word.now c.word_part.new.self read
    ∙ ap (λ es. Some (es, c.word_part.new.self)) (sym pushed)

pub returns-in_default : goal.returns-in_default
returns-in_default c =
    let lt : c.loop.counter < length c.args.self.now = omega arith in
    other word_part_at (words_view c.loop.words.items) (length c.args.self.now) c.loop.counter c.loop.self _ lt c.loop.invariant c.in_ok-word.word.now c.in_ok-word.behind c.word_part.new.self c.in_default.not-Close c.in_default.not-Comma c.in_ok-word.ensures

pub loop-preserved : goal.loop-preserved
loop-preserved c =
    let lt : c.loop.counter < length c.args.self.now = omega arith in
    let pushed = ap words_view c.in_ok-push.ensures.items ∙ map_push (λ (w : Bor (List ℕ)). w.now) c.loop.words.items c.in_ok-word.word in
    let read = c.in_ok-word.ensures ∙ ap (λ m. Some ((c.in_ok-word.word.now, m), c.word_part.new.self)) c.in-Comma.is in
    ap (λ es. with_front es (list_of word_part_at (length c.args.self.now - (c.loop.counter + 1)) c.word_part.new.self)) pushed
    ∙ goes_on word_part_at (words_view c.loop.words.items) (length c.args.self.now) c.loop.counter c.loop.self _ lt c.loop.invariant c.in_ok-word.word.now c.word_part.new.self read
