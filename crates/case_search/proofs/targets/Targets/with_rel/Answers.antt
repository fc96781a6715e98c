use Rattle.std.proofs.Common.{◌≡◌, ◌++◌, ◌∷◌, [], ap, ◌∙◌}
use Rattle.std.specs.List.{list_all}
use Rattle.fd_prob.specs.declared.relation.Rel.{Rel}
use Rattle.fd_prob.specs.Relations.{holds}
use Rattle.case_search.specs.Internal.Stronger.{is_at_target}
use Rattle.case_search.proofs.JoinedTargets.{all_with, with_beside}
use Rattle.case_search.proofs.targets.Targets.with_rel.Goals as goal

pub returns-clause-holds : goal.returns-clause-holds
returns-clause-holds c op x =
    let rels = c.args.self.rels in
    let is : c.push.new.self ≡ rels ++ c.args.rel.now ∷ [] = c.in_ok-push.ensures.ok ∙ ap (λ (r : Rel). rels ++ r ∷ []) c.in_ok-copy.ensures in
    with_beside (list_all (holds op x) rels) (is_at_target op x c.args.self.target) (holds op x c.args.rel.now) (list_all (holds op x) c.push.new.self) (all_with op x rels c.push.new.self c.args.rel.now is)
