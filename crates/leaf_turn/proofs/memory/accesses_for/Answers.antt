use Rattle.std.proofs.Common.{List, ℕ, sym, subst}
use Rattle.dom_set.specs.Elements.{is_in}
use Rattle.leaf_link.specs.Reaching.{HasPages}
use Rattle.part_state.specs.State.{here}
use Rattle.turn_laws.specs.Given.{turn_at}
use Rattle.leaf_turn.proofs.memory.accesses_for.Goals as goal

pub returns-clause-pages : goal.returns-clause-pages
returns-clause-pages c = λ s feet setting. subst (λ (l : List ℕ). HasPages (turn_at s feet c.args.hart (here c.args.part.now)) c.args.atoms.now (is_in l)) (sym c.in_ok-accesses.ensures.pages) (c.in_ok-pages.ensures s feet setting)
