use Rattle.case_search.proofs.Searching.{holding_of, last_found, last_none, not_holding_of}
use Rattle.case_search.proofs.search.last.Goals as goal

pub returns-then-all_hold : goal.returns-then-all_hold
returns-then-all_hold c =
    let x = c.in_ok-x.x in
    last_found c.args.case.now c.args.doms.now c.requires.fixed x c.in_ok-x.ensures.0 c.in_ok-x.ensures.1 (holding_of c.args.case.now c.operation.result c.as_slice.result.now x c.operation.ensures c.as_slice.ensures c.if-all_hold.ensures)

pub returns-else-all_hold : goal.returns-else-all_hold
returns-else-all_hold c =
    let x = c.in_ok-x.x in
    λ _. last_none c.args.case.now c.args.doms.now c.requires.fixed x c.in_ok-x.ensures.0 c.in_ok-x.ensures.1 (not_holding_of c.args.case.now c.operation.result c.as_slice.result.now x c.operation.ensures c.as_slice.ensures c.if-all_hold.ensures)
