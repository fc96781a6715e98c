use Rattle.std.proofs.Common.{arith, ◌<◌, ◌^◌}
use Rattle.part_state.specs.State.{here}
use Rattle.turn_laws.specs.Given.{turn_at}
use Rattle.leaf_turn.proofs.Data.{accesses_told, data_ground}
use Rattle.leaf_turn.proofs.Fetches.{has_forms}
use Rattle.leaf_turn.proofs.memory.accesses_of.Goals as goal

pub returns-clause-accesses : goal.returns-clause-accesses
returns-clause-accesses c = λ s feet log setting footprint leads.
    let w = here c.args.part.now in
    let k = c.args.hart in
    let turn = turn_at s feet k w in
    let own = c.feet-feet.result.now in
    let small : c.args.pa < 2 ^ 32 = omega arith in
    let forms = has_forms c.args.t.now c.in_ok-forms.forms s feet k w c.in_ok-forms.ensures setting in
    let ground = data_ground c.args.t.now c.in_ok-forms.forms s feet own k w _ _ c.in_ok-forms.ensures setting c.is_test.ensures c.requires.hart c.known_is_words.ensures.words c.memory-memory.ensures c.feet-feet.ensures footprint c.data_view-view.ensures in
    accesses_told c.args.t.now c.in_ok-forms.forms s feet own k w _ _ log c.args.pa c.as_slice.result.now _ c.in_ok-forms.ensures setting c.is_test.ensures c.requires.hart c.known_is_words.ensures.words c.memory-memory.ensures c.feet-feet.ensures footprint
    c.data_view-view.ensures c.requires.aligned small c.as_slice.ensures c.in_ok-bytes.ensures (c.in_ok-walked.ensures log c.args.pa leads) c.requires.apart (c.in_ok-entries.ensures.first turn forms) (c.in_ok-entries.ensures.second turn forms)
    (c.in_ok-loads.ensures turn ground).0 (c.in_ok-stores.ensures turn ground).0
