use Rattle.std.proofs.Common.{◌≡◌, drop, nat_lt}
use Rattle.std.specs.List.{list_any}
use Rattle.tpl_state.proofs.body.is_any_weighted.Given as goal

abbrev pub invariant-loop-way : goal.invariant-loop-way
invariant-loop-way l = list_any (λ w. nat_lt 0 w.0) (drop l.way-index l.ways) ≡ list_any (λ w. nat_lt 0 w.0) l.ways
