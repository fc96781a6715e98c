use Rattle.std.proofs.Common.{refl}
use Rattle.part_state.specs.State.{here}
use Rattle.leaf_turn.proofs.Fetches.{tells_traps}
use Rattle.leaf_turn.proofs.stand.bare_stand.Goals as goal

pub returns-clause-traps : goal.returns-clause-traps
returns-clause-traps c = λ s feet setting. tells_traps c.args.t.now c.args.hart (here c.args.part.now) _ s feet c.hart-state.ensures refl setting
