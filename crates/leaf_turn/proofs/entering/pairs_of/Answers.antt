use Rattle.turn_laws.specs.Given.{turn_at}
use Rattle.leaf_turn.proofs.Fetches.{has_forms}
use Rattle.leaf_turn.proofs.entering.pairs_of.Goals as goal

pub returns : goal.returns
returns c = λ s feet k w setting. c.fetch_pairs.ensures (turn_at s feet k w) (has_forms c.args.t.now c.in_ok-forms.forms s feet k w c.in_ok-forms.ensures setting)
