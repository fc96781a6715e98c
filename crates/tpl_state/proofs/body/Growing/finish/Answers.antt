use Rattle.std.proofs.Common.{ap, ◌∙◌}
use Rattle.tpl_state.specs.Internal.Growing.{Grown}
use Rattle.tpl_state.proofs.Bodies.{whole_lines}
use Rattle.tpl_state.proofs.body.Growing.finish.Goals as goal

pub returns : goal.returns
returns c = whole_lines c.self.inside.open.items c.pop.new.self.items c.in-Some.open c.in-Whole.items c.in-Whole.is c.in-Some.ensures.items c.self.invariant ∙ ap (λ (g : Grown). g.lines) c.self.view_is
