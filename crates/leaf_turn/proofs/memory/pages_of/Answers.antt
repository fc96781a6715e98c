use Rattle.part_state.specs.State.{here}
use Rattle.leaf_turn.proofs.Data.{pages_told}
use Rattle.leaf_turn.proofs.memory.pages_of.Goals as goal

pub returns : goal.returns
returns c = pages_told c.args.t.now (here c.args.part.now) c.args.hart c.bare_stand-stand.result c.args.names.now c.args.atoms.now c.in_ok-all.all c.in_ok-pages.pages c.requires.names c.bare_stand-stand.ensures.names c.in_ok-all.ensures c.in_ok-pages.ensures
