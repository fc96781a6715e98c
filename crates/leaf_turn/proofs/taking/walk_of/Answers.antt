use Rattle.std.proofs.Common.{sym, ◌∙◌}
use Rattle.leaf_link.specs.Answers.{values_in}
use Rattle.part_state.specs.State.{here}
use Rattle.leaf_turn.proofs.Playing.{walk_made}
use Rattle.leaf_turn.proofs.taking.walk_of.Goals as goal

pub returns : goal.returns
returns c = walk_made c.args.hart (here c.args.part.now) (values_in c.args.x.now) c.data_view-view.result c.value-ea.result c.root_address-root.result c.root_entry.result c.second_of-second.result c.data_view-view.ensures c.value-ea.ensures c.root_address-root.ensures
    (c.root_entry.ensures c.args.hart) c.second_of-second.ensures (sym c.is_translated.ensures ∙ c.if-not-is_translated.false)
