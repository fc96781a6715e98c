use Rattle.std.proofs.Common.{inl, inr, arith}
use Rattle.std.proofs.lemmas.Bool.{cases_lt}
use Rattle.set_pieces.proofs.Unmatched.{page_of_part}
use Rattle.set_pieces.proofs.holes.pages_unmatched.Goals as goal

pub loop-bit-preserved : goal.loop-bit-preserved
loop-bit-preserved c = record {
  reached = omega (arith, c.loop-bit.invariant.reached, c.pages_of-end.ensures.reached);
  most = c.pages_of-end.ensures.most;
  held = λ q from before. elim (cases_lt q c.loop-bit.end) [
    | inl old ↦ c.loop-bit.invariant.held q from old
    | inr new ↦ page_of_part c.args.run c.args.hole c.loop-bit.bit c.missed.result q (omega arith) c.ends.ensures.all c.missed.ensures (c.pages_of-end.ensures.held q from new before)
  ];
}
