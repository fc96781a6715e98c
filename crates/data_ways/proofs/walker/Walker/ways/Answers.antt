use Rattle.std.proofs.Common.{ℕ, ◌+◌, Bool, List, drop, map}
use Rattle.row_parts.specs.declared.row.Row.{Row}
use Rattle.row_parts.proofs.Lists.{any_rest}
use Rattle.data_ways.specs.declared.barring.NewRoot.{NewRoot}
use Rattle.data_ways.specs.Internal.Making.{in_ways, row_has, rows_have}
use Rattle.data_ways.proofs.Told.{row_further}
use Rattle.data_ways.proofs.walker.Walker.ways.Goals as goal

pub loop-row-preserved : goal.loop-row-preserved
loop-row-preserved g c = λ test x first second small.
    let self = c.args.self.now in
    let at = g.M.Words.at self.memory.now in
    let listed : List ℕ = map (λ (new : NewRoot). new.value) c.args.news.now in
    let has : Row → Bool = λ row. row_has at self.feet.now self.hart self.view self.access test listed row x first second in
    let all = c.args.rows.now in
    let i = c.loop-row.row-index in
    row_further (in_ways test c.loop-row.ways.items x first second) (in_ways test c.push_row.new.ways.items x first second) (has c.row-item.result)
    (rows_have at self.feet.now self.hart self.view self.access test listed (drop i all) x first second) (rows_have at self.feet.now self.hart self.view self.access test listed (drop (i + 1) all) x first second)
    (rows_have at self.feet.now self.hart self.view self.access test listed all x first second)
    (c.in_ok-push_row.ensures test x first second small) (any_rest has all i c.row-item.result c.loop-row-test.true c.row-item.is) (c.loop-row.invariant test x first second small)
