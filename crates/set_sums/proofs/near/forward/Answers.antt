use Rattle.set_sums.proofs.Tracked.{forward_more}
use Rattle.set_sums.proofs.near.forward.Goals as goal

pub loop-track-preserved : goal.loop-track-preserved
loop-track-preserved c = forward_more c.args.tracks.now c.loop-track.all.items c.push.new.self.items c.loop-track.track-index c.track-item.result c.along.result c.loop-track-test.true c.track-item.is c.in_ok-push.ensures.items c.along.ensures c.loop-track.invariant
