use Rattle.std.proofs.Common.{Bool, ◌||◌, sym, ap, ◌∙◌}
use Rattle.dom_set.specs.Elements.{is_in}
use Rattle.row_parts.specs.Classes.{seen_at}
use Rattle.data_ways.proofs.Parted.{one_stored}
use Rattle.data_ways.proofs.walker.Walker.with_stored.Goals as goal

pub returns-in_ok-both-in-Known : goal.returns-in_ok-both-in-Known
returns-in_ok-both-in-Known g c = λ ea small.
    let at = g.M.Words.at c.args.self.now.memory.now in
    c.in_ok-both-in-Known.ensures ea small
    ∙ ap (λ (b : Bool). is_in c.args.stored ea || b)
    (one_stored at c.args.base c.args.mask c.args.frame c.args.index c.in-Known.field-0 c.args.level c.in_ok-word-in-Known.word c.in_ok-leading-in-Known.leading c.in_ok-slice-in-Known.slice c.in_ok-own-in-Known.own
    (ap (seen_at at) (sym c.from.ensures) ∙ sym c.in-Known.ensures) c.in_ok-word-in-Known.ensures c.in_ok-leading-in-Known.ensures c.in_ok-slice-in-Known.ensures c.in_ok-own-in-Known.ensures ea small)
