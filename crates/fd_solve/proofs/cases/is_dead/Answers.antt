use Rattle.std.proofs.Common.{ℕ, ◌<◌, List, ap, get_or, length, subst, ◌∙◌}
use Rattle.fd_prob.specs.declared.relation.Rel.{Rel}
use Rattle.fd_solve.proofs.DeadCases.{dead_case}
use Rattle.fd_solve.proofs.cases.is_dead.Goals as goal

pub returns-then-has_no_row : goal.returns-then-has_no_row
returns-then-has_no_row c is x =
    let i : ℕ = c.loop-rel.rel-index in
    let rel : Rel = c.rel-item.result in
    dead_case c.args.case.now i rel (subst (λ (rels : List Rel). i < length rels) c.as_slice-rel-items.ensures c.loop-rel-test.true)
    (c.rel-item.is ∙ ap (λ (rels : List Rel). get_or rels i rel) c.as_slice-rel-items.ensures) (c.has_no_row.ensures c.if-has_no_row.true) x
