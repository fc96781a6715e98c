-- Weights and what a draw picks.
use Rattle.std.proofs.Common.{◌≡◌, ℕ, ◌-◌, ◌%◌, ◌<◌, ◌^◌, Bool, true, false, ◌&&◌, nat_lt, List, [], ◌∷◌, length, refl, arith}
use Rattle.std.proofs.lemmas.Bool.{ltb-true}
use Rattle.tpl_ast.specs.Choices.{can_pick, weight_of}
use Rattle.gen_search.specs.Search.{way_at, picked}

pub both_true : (a b : Bool) → (a && b) ≡ true → (a ≡ true) × (b ≡ true)
both_true true b h = (refl, h)
both_true false b h = absurd (cc h)

pub way_below : {A : Type 0} (ways : List (ℕ × A)) (n : ℕ) → n < weight_of ways → way_at ways n < length ways
way_below [] n lt = absurd (omega (arith, lt))
way_below (w ∷ ws) n lt = grind (arith, way_below ws (n - w.0))

pub has_weight : {A : Type 0} (ways : List (ℕ × A)) → can_pick ways ≡ true → 0 < weight_of ways
has_weight ways fit = ltb-true 0 (weight_of ways) (both_true (nat_lt 0 (weight_of ways)) (nat_lt (weight_of ways) (2 ^ 64) && nat_lt (length ways) (2 ^ 32)) fit).0

pub weight_fits : {A : Type 0} (ways : List (ℕ × A)) → can_pick ways ≡ true → weight_of ways < 2 ^ 64
weight_fits ways fit = ltb-true (weight_of ways) (2 ^ 64) (both_true (nat_lt (weight_of ways) (2 ^ 64)) (nat_lt (length ways) (2 ^ 32)) (both_true (nat_lt 0 (weight_of ways)) (nat_lt (weight_of ways) (2 ^ 64) && nat_lt (length ways) (2 ^ 32)) fit).1).0

pub few_ways : {A : Type 0} (ways : List (ℕ × A)) → can_pick ways ≡ true → length ways < 2 ^ 32
few_ways ways fit = ltb-true (length ways) (2 ^ 32) (both_true (nat_lt (weight_of ways) (2 ^ 64)) (nat_lt (length ways) (2 ^ 32)) (both_true (nat_lt 0 (weight_of ways)) (nat_lt (weight_of ways) (2 ^ 64) && nat_lt (length ways) (2 ^ 32)) fit).1).1

pub pick_below : {A : Type 0} (ways : List (ℕ × A)) (draw : ℕ) → can_pick ways ≡ true → picked ways draw < length ways
pick_below ways draw fit = let some : 0 < weight_of ways = has_weight ways fit in way_below ways (draw % weight_of ways) (omega arith)
