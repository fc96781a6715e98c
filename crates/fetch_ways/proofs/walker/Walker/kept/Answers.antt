use Rattle.fetch_ways.specs.Internal.Keeping.{passes}
use Rattle.std.specs.Prelude.{filter}
use Rattle.fetch_ways.proofs.Listed.{filter_more}
use Rattle.fetch_ways.proofs.walker.Walker.kept.Goals as goal

pub loop-first-preserved : goal.loop-first-preserved
loop-first-preserved g c =
    let self = c.args.self.now in
    let test = passes (g.M.Words.at self.memory.now) self.feet.now self.hart self.view self.pc c.args.row.now c.args.end in
    filter_more test c.loop-first.kept.items c.push_kept.new.kept.items c.args.listed.now (filter test c.args.listed.now) c.loop-first.first-index c.in_ok-push_kept.ensures c.loop-first-test.true c.loop-first.invariant
