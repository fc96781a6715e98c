use Rattle.std.proofs.Common.{arith, ◌≡◌, ◌++◌, ◌+◌, string_bytes}
use Rattle.trace_text.proofs.Parts.{words_none, words_more, words_all, first_words}
use Rattle.trace_text.proofs.printing.push_words.Goals as goal

pub loop-at-init : goal.loop-at-init
loop-at-init c = words_none c.args.words.now c.args.last.now (string_bytes c.args.text.now)

pub loop-at-preserved : goal.loop-at-preserved
loop-at-preserved c =
    let was : string_bytes c.loop-at.text ≡ string_bytes c.args.text.now ++ first_words c.args.words.now c.args.last.now c.loop-at.at = c.loop-at.invariant in
    let pushed = c.in_ok-push_word.ensures in
    let more = words_more c.args.words.now c.args.last.now (string_bytes c.args.text.now) c.loop-at.at ((0, 0), 0) (omega arith) (omega arith) in
    let all : string_bytes c.push_word.new.text ≡ string_bytes c.args.text.now ++ first_words c.args.words.now c.args.last.now (c.loop-at.at + 1) = cc (was, pushed, more) in all

pub returns : goal.returns
returns c =
    let was = c.loop-at.invariant in
    let all = words_all c.args.words.now c.args.last.now c.loop-at.at (omega arith) in
    cc (was, all)
