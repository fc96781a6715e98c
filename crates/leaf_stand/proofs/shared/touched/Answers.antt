use Rattle.std.proofs.Common.{ℕ, ◌%◌, ◌==◌, ◌&&◌, List, [], ap, ◌∙◌}
use Rattle.dom_set.specs.Elements.{is_in, is_within}
use Rattle.dom_set.proofs.Sets.{is_in-elements}
use Rattle.tpl_admit.specs.Truth.{trace_touches}
use Rattle.leaf_stand.proofs.Blocks.{all_spans, any_traces, each_number}
use Rattle.leaf_stand.proofs.shared.touched.Goals as goal

pub returns : goal.returns
returns c v small =
    let spans : List (ℕ × ℕ) = c.loop-records.spans.items in
    ap (λ (l : List ℕ). is_in l v) c.in_ok-set.ensures
    ∙ is_in-elements (λ x. x % 1 == 0 && is_within c.deref.result.now x) v small
    ∙ ap (λ (l : List (ℕ × ℕ)). v % 1 == 0 && is_within l v) c.deref.ensures.value
    ∙ each_number v (is_within spans v)
    ∙ all_spans (λ r n. trace_touches n r.now) c.args.others.now c.loop-records.records-index [] spans c.loop-records-test.false c.loop-records.invariant v small
    ∙ any_traces (trace_touches v) c.args.others.now
