use Rattle.std.proofs.Common.{◌%◌, ◌&&◌, eqb, ◌∙◌, ap, List, ℕ}
use Rattle.dom_set.specs.Elements.{elements_of, is_within}
use Rattle.part_machine.specs.Whole.{Bare}
use Rattle.part_state.specs.State.{here}
use Rattle.leaf_turn.specs.Data.{is_read}
use Rattle.leaf_turn.proofs.Data.{walked_set}
use Rattle.leaf_turn.proofs.Fetches.{walk_says}
use Rattle.leaf_turn.proofs.memory.walked_by.Goals as goal

pub returns : goal.returns
returns c = λ log pa leads.
    let w = here c.args.part.now in
    walked_set c.args.hart w c.walk-walked.result.ptes c.walk-walked.result.outcome c.in_ok-ranges.ranges.items c.in_ok-set.set log pa
    (walk_says c.args.hart w _ _ _ c.walk-walked.result c.memory.ensures c.fetch_view-view.ensures (ap (λ (b : Bare). b.pc) c.hart.ensures) c.walk-walked.ensures.answer)
    (λ v. c.in_ok-ranges.ensures v ∙ ap (λ (l : List (ℕ × ℕ)). is_read l v) c.as_slice.ensures)
    (c.in_ok-set.ensures ∙ ap (λ (l : List (ℕ × ℕ)). elements_of (λ x. eqb (x % 1) 0 && is_within l x)) c.deref.ensures.value)
    leads
