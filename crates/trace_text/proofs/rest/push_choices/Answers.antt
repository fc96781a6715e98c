use Rattle.std.proofs.Common.{arith, ◌≡◌, ◌++◌, ◌+◌, take, string_bytes}
use Rattle.trace_text.specs.Rest.{choices_text}
use Rattle.trace_text.proofs.Numbered.{choices_more}
use Rattle.trace_text.proofs.rest.push_choices.Goals as goal

pub loop-at-preserved : goal.loop-at-preserved
loop-at-preserved c =
    let was : string_bytes c.loop-at.text ≡ string_bytes c.args.text.now ++ choices_text (take c.loop-at.at c.args.choices.now) = c.loop-at.invariant in
    let pushed = c.in_ok-push_choice.ensures in
    let more = choices_more (string_bytes c.args.text.now) c.args.choices.now c.loop-at.at 0 (omega arith) in
    let all : string_bytes c.push_choice.new.text ≡ string_bytes c.args.text.now ++ choices_text (take (c.loop-at.at + 1) c.args.choices.now) = cc (was, pushed, more) in all
