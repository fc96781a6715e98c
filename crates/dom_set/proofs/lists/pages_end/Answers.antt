use Rattle.std.proofs.Common.{inl, inr, sym, arith}
use Rattle.std.proofs.lemmas.Bool.{cases_lt}
use Rattle.set_pieces.proofs.Pages.{one_holds}
use Rattle.dom_set.proofs.lists.pages_end.Goals as goal

pub loop-p-preserved : goal.loop-p-preserved
loop-p-preserved c = record {
  reached = omega (arith, c.further_end-end.ensures.reached, c.loop-p.invariant.reached);
  most = c.further_end-end.ensures.most;
  held = λ q from before. elim (cases_lt q c.loop-p.end) [
    | inl old ↦ c.loop-p.invariant.held q from old
    | inr new ↦ one_holds c.args.pieces.now c.loop-p.p-index c.p-item.result q (omega (arith, c.loop-p-test.true)) (sym c.p-item.is) (c.further_end-end.ensures.held q from new before)
  ];
}
