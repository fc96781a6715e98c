use Rattle.std.proofs.Common.{List, refl, sym, subst}
use Rattle.fd_narrow.specs.Narrowing.{AllHold}
use Rattle.fd_prob.specs.declared.relation.Rel.{Rel}
use Rattle.rv_isa.specs.Numbers.{op_numbered}
use Rattle.case_search.proofs.Joining.{case_alike, least_alike}
use Rattle.case_search.proofs.solving.solve_joined.Goals as goal

pub least_of-requires : goal.least_of-requires
least_of-requires c = case_alike c.args.case.now c.in_ok-stronger.stronger c.in_ok-stronger.ensures.alike c.requires

pub returns-then-can_be_stronger : goal.returns-then-can_be_stronger
returns-then-can_be_stronger c = least_alike c.args.case.now c.in_ok-stronger.stronger c.in_ok-stronger.ensures.alike c.args.pivots.now c.in_ok-least.least c.in_ok-least.ensures

pub returns-then-are_contradictory : goal.returns-then-are_contradictory
returns-then-are_contradictory c y made =
    c.if-are_contradictory.ensures refl (op_numbered c.args.case.now.op) y
    (subst (λ (rels : List Rel). AllHold (op_numbered c.args.case.now.op) rels y) (sym c.as_slice.ensures) made.1.relations)
