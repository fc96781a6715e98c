use Rattle.std.proofs.Common.{ℕ, List, refl, ap, ◌∙◌}
use Rattle.dom_set.specs.Elements.{is_within}
use Rattle.row_parts.proofs.Cuts.{with_all}
use Rattle.row_parts.proofs.blocks.+push_blocks.Goals as goal

pub returns-in_ok-push-in-All : goal.returns-in_ok-push-in-All
returns-in_ok-push-in-All g t c = λ x.
    ap (λ (rs : List (ℕ × ℕ)). is_within rs x) c.in_ok-push-in-All.ensures.items
    ∙ with_all c.args.ranges.now.items (g.C.Choice.test c.args.choice.now) x c.args.start c.last_of.result c.args.bits c.last_of.ensures (c.in-All.ensures.all refl)
