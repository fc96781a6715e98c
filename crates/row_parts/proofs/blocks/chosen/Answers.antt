use Rattle.std.proofs.Common.{ℕ, List, ◌||◌, ◌&&◌, ap, ◌∙◌, arith}
use Rattle.dom_set.specs.Elements.{is_within}
use Rattle.row_parts.specs.Internal.Blocks.{is_in_block}
use Rattle.row_parts.proofs.Cuts.{chosen_is}
use Rattle.row_parts.proofs.blocks.chosen.Goals as goal

pub returns : goal.returns
returns g c = λ x small.
    chosen_is c.set_laws.ensures.pass c.set_laws.ensures.tests c.deref.result.now c.in_ok-low.low c.in_ok-passing.passing c.args.set.now c.in_ok-chosen.chosen (g.C.Choice.test c.args.choice.now) c.args.width c.mask_of.result x small
    (omega (arith, c.power-words.ensures.value, c.power-words.ensures.bound)) c.mask_of.ensures c.in_ok-chosen.ensures c.in_ok-passing.ensures c.in_ok-low.ensures
    (λ y. ap (λ (rs : List (ℕ × ℕ)). is_within rs y) c.deref.ensures.value ∙ c.in_ok-push_blocks.ensures y ∙ ap (λ (rs : List (ℕ × ℕ)). is_within rs y || (is_in_block 0 c.args.width y && g.C.Choice.test c.args.choice.now y)) c.new-ranges.ensures.items)
