use Rattle.std.proofs.Common.{◌≡◌, ℕ, ◌∷◌, [], nat_eq, ◌∙◌, arith}
use Rattle.std.proofs.lemmas.Bool.Decides.{nat_tests}
use Rattle.dom_set.specs.Elements.{is_within}
use Rattle.data_bytes.proofs.Sets.{runs_are}
use Rattle.data_goals.proofs.cuts.zero.Goals as goal

zero_alone : (v : ℕ) → is_within ((0, 0) ∷ []) v ≡ nat_eq v 0
zero_alone v = grind (arith, nat_tests)

pub returns : goal.returns
returns c v small = runs_are ((0, 0) ∷ []) c.in_ok-zero.zero c.in_ok-zero.ensures v small ∙ zero_alone v
