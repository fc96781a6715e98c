use Rattle.std.proofs.Common.{◌||◌, Bool, take, sym, ap, ◌∙◌}
use Rattle.std.specs.List.{list_any}
use Rattle.std.proofs.lemmas.List.Folds.{list_any_more}
use Rattle.fd_prob.specs.declared.relation.Quad.{Quad}
use Rattle.fd_prob.specs.Relations.{is_in_row}
use Rattle.fd_narrow.proofs.domains.Domains.possible_rows.Goals as goal

pub loop-row-preserved : goal.loop-row-preserved
loop-row-preserved c = λ x inside.
    let row = c.row-item.result in
    let rows = c.args.rows.now in
    c.in_ok-push_possible.ensures x inside
    ∙ ap (λ (b : Bool). b || is_in_row x row) (c.loop-row.invariant x inside)
    ∙ ap (λ (r : Quad). list_any (is_in_row x) (take c.loop-row.row-index rows) || is_in_row x r) c.row-item.is
    ∙ sym (list_any_more (is_in_row x) rows c.loop-row.row-index row c.loop-row-test.true)
