use Rattle.std.proofs.Common.{[], ◌∷◌, ◌++◌, ap, ◌∙◌}
use Rattle.tpl_ast.specs.Bodies.{EnterWay, Leave, lines_of_body}
use Rattle.tpl_state.specs.Internal.Growing.{Grown}
use Rattle.tpl_state.proofs.Bodies.{grown}
use Rattle.tpl_state.proofs.body.Growing.add_way.Goals as goal

pub returns-clause-lines : goal.returns-clause-lines
returns-clause-lines c =
    grown c.self.inside.open.items c.pop.new.self.items c.push.new.self.items c.in-Some.open _ (EnterWay c.args.weight ∷ lines_of_body c.args.items.items ++ Leave ∷ []) c.in-Some.ensures.items c.in_ok-push.ensures.items c.in_ok-push_way.ensures.lines
    ∙ ap (λ (g : Grown). g.lines ++ (EnterWay c.args.weight ∷ lines_of_body c.args.items.items ++ Leave ∷ [])) c.self.view_is
