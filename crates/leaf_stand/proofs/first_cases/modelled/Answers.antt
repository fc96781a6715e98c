use Rattle.std.proofs.Common.{◌≡◌, ℕ, subst, sym}
use Rattle.std.proofs.lemmas.Result.{IfOk-weaker}
use Rattle.dom_set.specs.Elements.{is_within}
use Rattle.leaf_link.specs.Firsts.{is_modelled}
use Rattle.leaf_stand.proofs.Olds.{modelled_set}
use Rattle.leaf_stand.proofs.first_cases.modelled.Goals as goal

pub returns : goal.returns
returns c = IfOk-weaker c.from_ranges.result _ _ (λ s h. modelled_set c.deref.result.now s h (subst (λ pairs. (v : ℕ) → is_within pairs v ≡ is_modelled v) (sym c.deref.ensures.value) c.in_ok-pairs.ensures)) c.from_ranges.ensures
