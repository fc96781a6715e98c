use Rattle.std.proofs.Common.{◌++◌, ap, ◌∙◌}
use Rattle.tpl_ast.specs.Bodies.{lines_of_item}
use Rattle.tpl_state.proofs.Bodies.{grown}
use Rattle.tpl_state.specs.Internal.Growing.{Grown}
use Rattle.tpl_state.proofs.body.Growing.add.Goals as goal

pub returns-clause-lines : goal.returns-clause-lines
returns-clause-lines c =
    grown c.self.inside.open.items c.pop.new.self.items c.push-2.new.self.items c.in-Some.open _ _ c.in-Some.ensures.items c.in_ok-push-2.ensures.items c.in_ok-push.ensures.lines
    ∙ ap (λ (g : Grown). g.lines ++ lines_of_item c.args.item) c.self.view_is
