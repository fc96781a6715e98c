use Rattle.std.proofs.Common.{◌^◌, ◌%◌, eqb, ◌∙◌}
use Rattle.dom_set.proofs.Merging.{within_more}
use Rattle.dom_set.proofs.pairs.aligned.Goals as goal

pub loop-pair-preserved : goal.loop-pair-preserved
loop-pair-preserved c = record {
  multiples = c.in_ok-push_multiples.ensures.multiples c.loop-pair.invariant.multiples;
  held = λ x lt. c.in_ok-push_multiples.ensures.held x lt ∙ rw (c.loop-pair.invariant.held x lt)
      (within_more c.args.pairs.now c.loop-pair.pair-index (0, 0) (eqb (x % 2 ^ c.args.shift) 0) x c.loop-pair-test.true);
}
