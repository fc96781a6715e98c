use Rattle.std.proofs.Common.{length, ap, ◌∙◌, ◌<◌, arith, rules, length-drop}
use Rattle.std.proofs.lemmas.List.{take_rest}
use Rattle.streams.proofs.Written.{written_more, HasRoom-after}
use Rattle.streams.proofs.sink.write_whole.Goals as goal

pub loop-rest-preserved : goal.loop-rest-preserved
loop-rest-preserved g c =
    let text = c.loop-rest.rest.now in
    let n = c.in_ok-count.count in
    let is = take_rest text n in
    let some : 0 < length text = search rules in
    record {
      written = written_more _ _ _ _ _ _ _ _ _ _ c.loop-rest.invariant.written c.in_ok-count.ensures.bound c.in_ok-count.ensures.bytes c.in_ok-count.ensures.room is;
      room = HasRoom-after _ _ n (length text) _ c.loop-rest.invariant.room c.in_ok-count.ensures.room c.in_ok-count.ensures.bound (ap length is ∙ length-drop n text);
      idle = λ none. absurd (omega (arith, none, c.loop-rest.invariant.written.within, some));
      none_failed = c.in_ok-count.ensures.faults ∙ c.loop-rest.invariant.none_failed;
    }
