use Rattle.std.proofs.Common.{◌^◌, sym, ◌∙◌, rules}
use Rattle.std.proofs.lemmas.Bool.{eqb-true, eq-eqb, and_parts}
use Rattle.dom_set.proofs.Sameness.{same_fields, same_holes, same_by_place, same_from_counts, sizes_from_same, common_from_same}
use Rattle.dom_set.proofs.combined.are_same.Goals as goal

pub returns-then-eq : goal.returns-then-eq
returns-then-eq c = (
  λ _ x lt. same_by_place _ c.args.pieces.now c.args.others.now (sym c.eq.ensures ∙ c.if-eq.true)
      (λ p q h y. same_fields p q y (search rules) (search rules) (search rules) (search rules)
      (same_holes _ p.hole q.hole y (λ a b e. (eqb-true _ _ (and_parts _ _ e).0, eqb-true _ _ (and_parts _ _ e).1)) (and_parts _ _ h).1)) x,
  λ _. search rules,
)

pub returns-then-size-count_below : goal.returns-then-size-count_below
returns-then-size-count_below c = (
  λ h. same_from_counts c.args.pieces.now c.args.others.now (2 ^ 32) c.requires.apart c.requires.others
      (sym c.count_below-size.ensures ∙ c.if-size-count_below.true ∙ c.count_below.ensures)
      (sym c.count_below-size.ensures ∙ eqb-true c.count_below-size.result c.count_common.result h ∙ c.count_common.ensures),
  λ same. eq-eqb c.count_below-size.result c.count_common.result
      (c.count_below-size.ensures ∙ common_from_same c.args.pieces.now c.args.others.now (2 ^ 32) c.requires.apart same ∙ sym c.count_common.ensures),
)

pub returns-else-size-count_below : goal.returns-else-size-count_below
returns-else-size-count_below c = (
  λ h. absurd (c.if-size-count_below.false (eqb-true c.count_below-size.result c.count_below.result h)),
  λ same. eq-eqb c.count_below-size.result c.count_below.result
      (c.count_below-size.ensures ∙ sizes_from_same c.args.pieces.now c.args.others.now (2 ^ 32) same ∙ sym c.count_below.ensures),
)
