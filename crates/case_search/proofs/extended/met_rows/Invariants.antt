use Rattle.case_search.proofs.MetRows.{AreMet}
use Rattle.case_search.proofs.extended.met_rows.Given as goal

abbrev pub invariant-loop-row : goal.invariant-loop-row
invariant-loop-row l = AreMet l.doms l.rows l.row-index l.made.items
