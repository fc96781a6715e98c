use Rattle.std.proofs.Common.{[], ◌∷◌, ◌++◌, sym, ap, ◌∙◌}
use Rattle.tpl_ast.specs.Bodies.{Leave}
use Rattle.tpl_state.specs.declared.body.Block.{Block}
use Rattle.tpl_state.specs.Internal.Growing.{Grown, lines_of_block}
use Rattle.tpl_state.proofs.Bodies.{choose_lines, left, repeat_lines, seq_lines}
use Rattle.tpl_state.proofs.body.Growing.leave.Goals as goal

pub returns-in_ok-add-in-Sequence-clause-lines : goal.returns-in_ok-add-in-Sequence-clause-lines
returns-in_ok-add-in-Sequence-clause-lines c =
    c.in_ok-add-in-Sequence.ensures.lines
    ∙ left c.self.inside.open.items c.pop.new.self.items c.in-Some.open _ c.in-Some.ensures.items (seq_lines c.in-Sequence.items ∙ ap (λ (b : Block). lines_of_block b ++ Leave ∷ []) (sym c.in-Sequence.is))
    ∙ ap (λ (g : Grown). g.lines ++ Leave ∷ []) c.self.view_is

pub returns-in_ok-add-in-Times-clause-lines : goal.returns-in_ok-add-in-Times-clause-lines
returns-in_ok-add-in-Times-clause-lines c =
    c.in_ok-add-in-Times.ensures.lines
    ∙ left c.self.inside.open.items c.pop.new.self.items c.in-Some.open _ c.in-Some.ensures.items (repeat_lines c.in-Times.times c.in-Times.body ∙ ap (λ (b : Block). lines_of_block b ++ Leave ∷ []) (sym c.in-Times.is))
    ∙ ap (λ (g : Grown). g.lines ++ Leave ∷ []) c.self.view_is

pub returns-in_ok-add-in-Choice-clause-lines : goal.returns-in_ok-add-in-Choice-clause-lines
returns-in_ok-add-in-Choice-clause-lines c =
    c.in_ok-add-in-Choice.ensures.lines
    ∙ left c.self.inside.open.items c.pop.new.self.items c.in-Some.open _ c.in-Some.ensures.items (choose_lines c.in-Choice.line c.in-Choice.ways ∙ ap (λ (b : Block). lines_of_block b ++ Leave ∷ []) (sym c.in-Choice.is))
    ∙ ap (λ (g : Grown). g.lines ++ Leave ∷ []) c.self.view_is

pub returns-in_ok-add_way-in-Alternative-clause-lines : goal.returns-in_ok-add_way-in-Alternative-clause-lines
returns-in_ok-add_way-in-Alternative-clause-lines c =
    c.in_ok-add_way-in-Alternative.ensures.lines
    ∙ left c.self.inside.open.items c.pop.new.self.items c.in-Some.open _ c.in-Some.ensures.items (ap (λ (b : Block). lines_of_block b ++ Leave ∷ []) (sym c.in-Alternative.is))
    ∙ ap (λ (g : Grown). g.lines ++ Leave ∷ []) c.self.view_is
