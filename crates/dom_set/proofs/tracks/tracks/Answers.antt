use Rattle.dom_set.proofs.Tracked.{piece_covered}
use Rattle.dom_set.proofs.tracks.tracks.Goals as goal

pub loop-p-preserved : goal.loop-p-preserved
loop-p-preserved c = λ x. piece_covered c.args.pieces.now c.loop-p.p-index c.p-item.result _ _ x c.loop-p-test.true c.p-item.is
    (c.loop-p.invariant x) c.in_ok-push_tracks.ensures.kept (c.in_ok-push_tracks.ensures.covered x)
