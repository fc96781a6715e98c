use Rattle.std.proofs.Common.{◌&&◌, ◌||◌, Bool, take, sym, ap, ◌∙◌}
use Rattle.std.specs.List.{list_any}
use Rattle.std.proofs.lemmas.List.Folds.{list_any_more}
use Rattle.fd_prob.specs.declared.relation.Quad.{Quad}
use Rattle.fd_prob.specs.Joining.{is_in_some_row}
use Rattle.fd_prob.specs.Relations.{is_in_row}
use Rattle.fd_prob.proofs.Joins.{one_more_other}
use Rattle.fd_prob.proofs.joined.push_common.Goals as goal

pub loop-other-preserved : goal.loop-other-preserved
loop-other-preserved c x =
    let first : Bool = is_in_row x c.args.first.now in
    let other = c.other-item.result in
    let before : Bool = list_any (is_in_row x) c.args.rows.now.items in
    one_more_other first (list_any (is_in_row x) (take c.loop-other.other-index c.args.others.now)) (is_in_row x other)
    (list_any (is_in_row x) c.push_row.new.rows.items) (list_any (is_in_row x) c.loop-other.rows.items) (is_in_some_row x c.in_ok-common_row.field-0)
    (c.in_ok-push_row.ensures x) (c.in_ok-common_row.ensures x) before (c.loop-other.invariant x)
    ∙ ap (λ (p : Bool). before || (first && p))
    (ap (λ (row : Quad). list_any (is_in_row x) (take c.loop-other.other-index c.args.others.now) || is_in_row x row) c.other-item.is
    ∙ sym (list_any_more (is_in_row x) c.args.others.now c.loop-other.other-index other c.loop-other-test.true))
