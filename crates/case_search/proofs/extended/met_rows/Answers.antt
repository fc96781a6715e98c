use Rattle.case_search.proofs.MetRows.{next_row}
use Rattle.case_search.proofs.extended.met_rows.Goals as goal

pub loop-row-preserved : goal.loop-row-preserved
loop-row-preserved c = next_row c.args.doms.now c.args.rows.now c.loop-row.row-index c.row-item.result c.loop-row.made.items c.push_met.new.rows.items c.loop-row-test.true c.row-item.is c.loop-row.invariant c.in_ok-push_met.ensures
