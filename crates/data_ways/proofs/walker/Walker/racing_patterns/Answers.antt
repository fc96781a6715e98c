use Rattle.std.proofs.Common.{ℕ, ◌+◌, ◌*◌, Bool, ◌∙◌, arith}
use Rattle.dom_set.specs.Elements.{is_matching}
use Rattle.data_ways.specs.Internal.Barring.{races}
use Rattle.data_ways.specs.Internal.Tables.{index_at}
use Rattle.data_ways.proofs.Parted.{index_further, index_small, indices_through}
use Rattle.data_ways.proofs.walker.Walker.racing_patterns.Goals as goal

pub loop-index-preserved : goal.loop-index-preserved
loop-index-preserved g c = λ ea small.
    let self = c.args.self.now in
    let test : ℕ → Bool = λ k. races (g.M.Words.at self.memory.now) self.feet.now self.hart (c.args.frame * 4096 + k * 4) in
    index_further test c.loop-index.index (index_at c.args.level ea) (is_matching c.loop-index.patterns.items ea) (is_matching c.push_racing.new.patterns.items ea) (c.in_ok-push_racing.ensures ea small) (c.loop-index.invariant ea small)

pub returns : goal.returns
returns g c = λ ea small.
    let self = c.args.self.now in
    let test : ℕ → Bool = λ k. races (g.M.Words.at self.memory.now) self.feet.now self.hart (c.args.frame * 4096 + k * 4) in
    c.loop-index.invariant ea small ∙ indices_through test c.loop-index.index (index_at c.args.level ea) (index_small c.args.level ea small) (omega arith)
