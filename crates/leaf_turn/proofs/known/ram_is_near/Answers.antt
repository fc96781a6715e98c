use Rattle.std.proofs.Common.{ℕ, ◌<◌, List, length, slice_index_or, subst, ap, ◌∙◌}
use Rattle.leaf_turn.proofs.Knowing.{next_region}
use Rattle.leaf_turn.proofs.known.ram_is_near.Goals as goal

pub loop-region-preserved : goal.loop-region-preserved
loop-region-preserved c n later =
    let i = c.loop-region.region-index in
    let e = c.as_slice-region-items.ensures.regions in
    c.loop-region.invariant n
    (next_region c.args.ram.now i (0, 0) c.end_of-end.result n (subst (λ (l : List (ℕ × ℕ)). i < length l) e c.loop-region-test.true)
    (c.end_of-end.ensures ∙ ap (λ (l : List (ℕ × ℕ)). (slice_index_or l i (0, 0)).1) e) c.end_of-end.type_inv later)
