use Rattle.data_ways.proofs.Parted.{frame_free}
use Rattle.data_ways.proofs.walker.Walker.is_frame_free.Goals as goal

pub returns : goal.returns
returns g c = λ same i small.
    frame_free (g.M.Words.at c.args.self.now.memory.now) c.args.self.now.feet.now c.args.self.now.hart c.args.frame c.in-Ok.free c.in_ok-all.all c.in-Ok.ensures c.in_ok-all.ensures (c.eq.ensures.same.0 same) i small
