use Rattle.std.proofs.Common.{◌≡◌, ◌&&◌, ◌++◌, ◌∷◌, [], Bool, ap, ◌∙◌}
use Rattle.std.specs.List.{list_all}
use Rattle.std.proofs.lemmas.List.Folds.{list_all-append}
use Rattle.rv_isa.specs.declared.operation.Op.{Op}
use Rattle.fd_prob.specs.declared.problem.Assignment.{Assignment}
use Rattle.fd_prob.specs.declared.relation.Rel.{Rel}
use Rattle.fd_prob.specs.Internal.Joined.{all_hold}
use Rattle.fd_prob.specs.Joining.{some_row_holds}
use Rattle.fd_prob.specs.Relations.{holds}
use Rattle.fd_prob.proofs.Joins.{and_true, none_with, with_rel}
use Rattle.fd_prob.proofs.joined.Joined.with.Goals as goal

pub returns-in_ok-push-in_default : goal.returns-in_ok-push-in_default
returns-in_ok-push-in_default c = record {
  holds = λ op x. both op x;
  none = none_with c.args.self.rels c.push.new.self c.args.rel.now is c.in_default.not-Rows;
}
  where
    is : c.push.new.self ≡ c.args.self.rels ++ c.args.rel.now ∷ []
    is = c.in_ok-push-in_default.ensures.ok ∙ ap (λ (r : Rel). c.args.self.rels ++ r ∷ []) c.in_ok-copy-in_default.ensures

    both : (op : Op) (x : Assignment) → all_hold op x (record { rels = c.push.new.self; rows = c.args.self.rows }) ≡ (all_hold op x c.args.self && holds op x c.args.rel.now)
    both op x =
        let rels = c.args.self.rels in
        with_rel (list_all (holds op x) rels) (some_row_holds x c.args.self.rows) (holds op x c.args.rel.now) (list_all (holds op x) c.push.new.self)
        (ap (list_all (holds op x)) is ∙ list_all-append (holds op x) rels (c.args.rel.now ∷ []) ∙ ap (λ (p : Bool). list_all (holds op x) rels && p) (and_true (holds op x c.args.rel.now)))
