use Rattle.leaf_stand.proofs.Cutting.{next_cut}
use Rattle.leaf_stand.proofs.stand.Stand.cuts.Goals as goal

pub loop-slot-preserved : goal.loop-slot-preserved
loop-slot-preserved c = next_cut c.args.self.now c.args.bias.now c.loop-slot.slot-index _ c.loop-slot.cuts c.push_cut.new.cuts c.loop-slot-test.true c.in_ok-push_cut.ensures c.loop-slot.invariant
