use Rattle.std.proofs.Common.{ℕ, List, Bool, true, ◌&&◌, not, sym, ap, ◌∙◌}
use Rattle.dom_set.specs.Elements.{is_in}
use Rattle.dom_set.proofs.Sets.{is_in-elements}
use Rattle.row_parts.specs.Gaps.{are_indices_equal}
use Rattle.data_goals.proofs.cuts.counted.Goals as goal

pub returns : goal.returns
returns c v small =
    c.in_ok-off.ensures v small
    ∙ ap (λ (b : Bool). b && not (are_indices_equal v)) (ap (λ (l : List ℕ). is_in l v) c.in_ok-all.ensures ∙ is_in-elements (λ n. true) v small)
    ∙ ap (λ (b : Bool). not (b && are_indices_equal v)) (sym c.if-not-way.false)
