-- Variables that relations make equal.
use Rattle.std.proofs.Common.{◌≡◌, ◌<◌, ℕ, List, length, set, slice_index, inl, inr, sym, ◌∙◌, ap, subst, arith}
use Rattle.std.proofs.lemmas.List.{get_or-set_same, get_or-set_other}
use Rattle.fd_prob.specs.declared.problem.Assignment.{Assignment}
use Rattle.case_search.specs.Internal.Classes.{AreClasses}
use Rattle.case_search.proofs.Putting.{equal_or_not}

-- one variable goes over from a class to another one, whose value is the same
pub one_merged : (x : Assignment) (made : List ℕ) (from to place : ℕ) → length made ≡ 14 → place < 14 → AreClasses made x → slice_index made place ≡ from → slice_index x.values from ≡ slice_index x.values to → AreClasses (set made place to) x
one_merged x made from to place long below classes is same other less = elim (equal_or_not other place) [
  | inl e ↦
      let put : slice_index (set made place to) other ≡ to = subst (λ (m : ℕ). slice_index (set made place to) m ≡ to) (sym e) (get_or-set_same made place to 0 (omega (arith, long, below))) in
      let own : slice_index x.values from ≡ slice_index x.values other = ap (slice_index x.values) (sym is ∙ ap (slice_index made) (sym e)) ∙ classes other less in
      ap (slice_index x.values) put ∙ sym same ∙ own
  | inr apart ↦
      let kept : slice_index (set made place to) other ≡ slice_index made other = get_or-set_other made place other to 0 apart in
      ap (slice_index x.values) kept ∙ classes other less
]
