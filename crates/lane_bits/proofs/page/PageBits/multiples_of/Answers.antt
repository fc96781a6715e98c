use Rattle.std.proofs.Common.{◌≡◌, ◌%◌, ◌&&◌, ◌⊎◌, ℕ, List, inl, inr, eqb, ltb, sym, ap, ◌∙◌}
use Rattle.lane_bits.specs.Pages.{has}
use Rattle.lane_bits.proofs.Words.{all_multiples, ones_set, twos_set, fours_set, low_ones, low_twos, low_fours}
use Rattle.lane_bits.proofs.page.PageBits.multiples_of.Goals as goal

pub returns-then-step-eq1 : goal.returns-then-step-eq1
returns-then-step-eq1 c x =
    ap (λ (page : List ℕ). has page x) c.repeated.ensures ∙ all_multiples 0xffff_ffff_ffff_ffff 1 ones_set low_ones x
    ∙ ap (λ (step : ℕ). ltb x 4096 && eqb (x % step) 0) (sym c.if-step-eq1.true)

pub returns-then-step-eq2 : goal.returns-then-step-eq2
returns-then-step-eq2 c x =
    ap (λ (page : List ℕ). has page x) c.repeated-then-step-eq2.ensures ∙ all_multiples 0x5555_5555_5555_5555 2 twos_set low_twos x
    ∙ ap (λ (step : ℕ). ltb x 4096 && eqb (x % step) 0) (sym c.if-step-eq2.true)

pub returns-else-step-eq2 : goal.returns-else-step-eq2
returns-else-step-eq2 c x =
    ap (λ (page : List ℕ). has page x) c.repeated-else-step-eq2.ensures ∙ all_multiples 0x1111_1111_1111_1111 4 fours_set low_fours x
    ∙ ap (λ (step : ℕ). ltb x 4096 && eqb (x % step) 0) (sym (four c.args.step c.requires (λ e. c.if-step-eq1.false e) (λ e. c.if-step-eq2.false e))) where
      four : (s : ℕ) → (s ≡ 1) ⊎ ((s ≡ 2) ⊎ (s ≡ 4)) → (s ≡ 1 → ⊥) → (s ≡ 2 → ⊥) → s ≡ 4
      four s (inl one) a b = absurd (a one)
      four s (inr (inl two)) a b = absurd (b two)
      four s (inr (inr is)) a b = is
