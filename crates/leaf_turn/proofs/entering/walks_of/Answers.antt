use Rattle.std.proofs.Common.{◌∙◌, sym, ap}
use Rattle.leaf_link.specs.Firsts.{pairs_at}
use Rattle.part_machine.specs.Whole.{Bare}
use Rattle.part_state.specs.State.{here}
use Rattle.sv_walk.specs.declared.entry.View.{View}
use Rattle.turn_laws.specs.Given.{turn_at}
use Rattle.leaf_turn.proofs.Fetches.{fetch_ground, has_forms}
use Rattle.leaf_turn.proofs.entering.walks_of.Goals as goal

pub returns : goal.returns
returns c = λ s feet setting footprint.
    let w = here c.args.part.now in
    let turn = turn_at s feet c.args.hart w in
    let forms = has_forms c.args.t.now c.in_ok-forms.forms s feet c.args.hart w c.in_ok-forms.ensures setting in
    let ways = c.in_ok-ways.ensures turn (fetch_ground c.args.t.now c.in_ok-forms.forms s feet c.feet.result.now c.args.hart w _ _ _ c.in_ok-forms.ensures setting c.is_test.ensures c.requires.hart c.known_is_words.ensures.words
    c.memory.ensures c.feet.ensures footprint c.fetch_view-view.ensures (ap (λ (b : Bare). b.pc) c.hart.ensures)) in
    record {
      firsts = c.in_ok-forms-2.ensures.first turn forms;
      seconds = c.in_ok-forms-2.ensures.second turn forms;
      pairs = ap (λ (v : View). pairs_at turn v) (sym c.fetch_view-view.ensures) ∙ c.fetch_pairs-pairs.ensures turn forms;
      ways = ways.0;
      rows = (ways.1, ways.2);
    }
