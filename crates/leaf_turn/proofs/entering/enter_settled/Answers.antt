use Rattle.std.proofs.Common.{sym, ap, ◌∙◌, arith}
use Rattle.sv_walk.specs.Clauses.{ended}
use Rattle.part_state.specs.State.{here}
use Rattle.leaf_turn.specs.Entering.{are_free_walks}
use Rattle.leaf_turn.proofs.Settled.{entered_none, entered_raced, entered_settled, entered_spent}
use Rattle.leaf_turn.proofs.entering.enter_settled.Goals as goal

pub returns-then-nodes-pairs : goal.returns-then-nodes-pairs
returns-then-nodes-pairs c = λ t draws space. entered_spent t c.args.hart draws c.args.nodes c.args.pairs (here c.args.part.now) space (omega (arith, c.if-nodes-pairs.true))

pub returns-then-are_free_walks : goal.returns-then-are_free_walks
returns-then-are_free_walks c = λ t draws space.
    let le = c.if-nodes-pairs.false in
    entered_settled t c.args.hart draws c.args.nodes (here c.args.part.now) c.feet.result.now c.args.walked.now.ptes c.is_test.ensures c.requires.hart c.feet.ensures
    (λ s feet setting. let same = space s feet setting in omega (arith, same, le)) c.in-Pa.pa c.known_is_words.ensures.aligned
    (sym c.requires.walk ∙ ap (ended c.args.walked.now.ptes) c.in-Pa.is)
    (ap (are_free_walks c.feet.result.now c.args.hart) (sym c.as_slice.ensures) ∙ sym c.are_free_walks.ensures ∙ c.if-are_free_walks.true)

pub returns-else-are_free_walks : goal.returns-else-are_free_walks
returns-else-are_free_walks c = λ t draws space.
    let le = c.if-nodes-pairs.false in
    entered_raced t c.args.hart draws c.args.nodes (here c.args.part.now) c.feet.result.now c.args.walked.now.ptes c.is_test.ensures c.requires.hart c.feet.ensures
    (λ s feet setting. let same = space s feet setting in omega (arith, same, le)) c.in-Pa.pa
    (sym c.requires.walk ∙ ap (ended c.args.walked.now.ptes) c.in-Pa.is)
    (ap (are_free_walks c.feet.result.now c.args.hart) (sym c.as_slice.ensures) ∙ sym c.are_free_walks.ensures ∙ c.if-are_free_walks.false)

pub returns-in-Fault : goal.returns-in-Fault
returns-in-Fault c = λ t draws space.
    let le = c.if-nodes-pairs.false in
    entered_none t c.args.hart draws c.args.nodes (here c.args.part.now) c.args.walked.now.ptes
    (λ s feet setting. let same = space s feet setting in omega (arith, same, le)) c.args.walked.now.outcome c.requires.walk c.in-Fault.is
