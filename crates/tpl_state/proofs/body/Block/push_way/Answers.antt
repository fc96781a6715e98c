use Rattle.std.proofs.Common.{List, [], ◌∷◌, ◌++◌, sym, ap, ◌∙◌}
use Rattle.tpl_ast.specs.Bodies.{BodyLine, EnterChoose, EnterWay, Leave, lines_of_body}
use Rattle.tpl_state.specs.declared.body.Block.{Block}
use Rattle.tpl_state.specs.Internal.Growing.{lines_of_alternatives, lines_of_block}
use Rattle.tpl_state.proofs.Bodies.{alternatives_push}
use Rattle.tpl_state.proofs.body.Block.push_way.Goals as goal

pub returns-in_ok-push-in-Choice-clause-lines : goal.returns-in_ok-push-in-Choice-clause-lines
returns-in_ok-push-in-Choice-clause-lines c =
    ap (λ (s : List BodyLine). EnterChoose c.in-Choice.field-0 ∷ s) (ap lines_of_alternatives c.in_ok-push-in-Choice.ensures.items ∙ alternatives_push c.in-Choice.ways.items (c.args.weight, c.args.items))
    ∙ ap (λ (b : Block). lines_of_block b ++ (EnterWay c.args.weight ∷ lines_of_body c.args.items.items ++ Leave ∷ [])) (sym c.in-Choice.is)
