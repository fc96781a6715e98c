use Rattle.std.proofs.Common.{List, ap, ◌∙◌}
use Rattle.std.specs.List.{list_any}
use Rattle.fd_prob.specs.declared.relation.Quad.{Quad}
use Rattle.fd_prob.specs.Relations.{is_in_row}
use Rattle.fd_narrow.proofs.RowParts.{one_more, none_more}
use Rattle.fd_narrow.proofs.domains.Domains.push_possible.Goals as goal

pub returns-in_ok-push : goal.returns-in_ok-push
returns-in_ok-push c = λ x inside.
    ap (λ (rs : List Quad). list_any (is_in_row x) rs) c.in_ok-push.ensures.items ∙ one_more x c.args.made.now.items c.in_ok-copy.field-0 c.args.row.now c.in_ok-copy.ensures

pub returns-else-may : goal.returns-else-may
returns-else-may c = λ x inside. none_more (list_any (is_in_row x) c.args.made.now.items) (is_in_row x c.args.row.now) c.in_ok-may.may c.if-may.false (c.in_ok-may.ensures x inside)
