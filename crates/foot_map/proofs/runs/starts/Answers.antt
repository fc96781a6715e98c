use Rattle.std.proofs.Common.{◌≡◌, ◌+◌, ◌⊎◌, ◌&&◌, ℕ, Bool, inl, inr, ap, ◌∙◌}
use Rattle.lane_bits.specs.Pages.{has}
use Rattle.foot_map.proofs.Room.{four}
use Rattle.foot_map.proofs.runs.starts.Goals as goal

pub returns : goal.returns
returns c x =
    four (has c.args.page) (has c.and-pairs.result) (has c.lowered-2.result) (has c.and.result) c.and.ensures c.lowered-2.ensures pairs c.args.len x
    (length_is c.args.len c.requires c.if-len-eq1.false c.if-len-eq2.false) where
      length_is : (n : ℕ) → (n ≡ 1) ⊎ ((n ≡ 2) ⊎ (n ≡ 4)) → (n ≡ 1 → ⊥) → (n ≡ 2 → ⊥) → n ≡ 4
      length_is n (inl one) a b = absurd (a one)
      length_is n (inr (inl two)) a b = absurd (b two)
      length_is n (inr (inr quad)) a b = quad

      pairs : (y : ℕ) → has c.and-pairs.result y ≡ (has c.args.page y && has c.args.page (y + 1))
      pairs y = c.and-pairs.ensures y ∙ ap (λ (b : Bool). has c.args.page y && b) (c.lowered.ensures y)
