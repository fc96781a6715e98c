use Rattle.std.proofs.Common.{◌∷◌, [], subst}
use Rattle.dom_set.specs.Elements.{is_in}
use Rattle.data_ways.specs.declared.way.DataWay.{DataWay}
use Rattle.leaf_pose.specs.Extras.{AddsRows}
use Rattle.leaf_pose.proofs.AddressRows.{all_rows, next_row}
use Rattle.leaf_pose.proofs.extras.push_rows.Goals as goal

pub loop-way-preserved : goal.loop-way-preserved
loop-way-preserved c =
    next_row (is_in c.args.wanted.now) c.args.ways.now c.loop-way.way-index c.way-item.result c.args.rows.now.items c.loop-way.rows.items c.push_row.new.rows.items c.loop-way-test.true c.loop-way.invariant
    (subst (λ (way : DataWay). AddsRows (is_in c.args.wanted.now) (way ∷ []) c.loop-way.rows.items c.push_row.new.rows.items) c.way-item.is c.in_ok-push_row.ensures)

pub returns : goal.returns
returns c = all_rows (is_in c.args.wanted.now) c.args.ways.now c.loop-way.way-index c.args.rows.now.items c.loop-way.rows.items c.loop-way-test.false c.loop-way.invariant
