use Rattle.std.proofs.Common.{sym, refl}
use Rattle.dom_set.proofs.Spans.{covered_more, covered_none, ends_more}
use Rattle.dom_set.proofs.lists.spans.Goals.{in-Some+in_ok-push, in_default}
use Rattle.dom_set.proofs.lists.spans.Goals as goal

pub loop-p-preserved : goal.loop-p-preserved
loop-p-preserved c = elim c.match-span.branch [
  | in-Some+in_ok-push w ↦ rw (w.spans-is, w.in_ok-push.ensures.items) (record {
    covered = λ x h. covered_more c.args.pieces.now c.loop-p.p-index c.p-item.result c.loop-p.spans.items w.in-Some.span x c.loop-p-test.true (sym c.p-item.is) c.loop-p.invariant.covered w.in-Some.ensures.covered h;
    ends = ends_more c.args.pieces.now c.loop-p.p-index c.p-item.result c.loop-p.spans.items w.in-Some.span c.loop-p-test.true (sym c.p-item.is) c.loop-p.invariant.ends w.in-Some.ensures.ends;
  })
  | in_default w ↦ rw w.spans-is (record {
    covered = λ x h. covered_none c.args.pieces.now c.loop-p.p-index c.p-item.result c.loop-p.spans.items x c.loop-p-test.true (sym c.p-item.is) c.loop-p.invariant.covered (w.in_default.ensures.none refl) h;
    ends = c.loop-p.invariant.ends;
  })
]
