-- What holds of the body of each alternative.
use Rattle.std.proofs.Common.{ℕ, zero, suc, ◌+◌, List, [], ◌∷◌, ◌++◌, take, drop}
use Rattle.std.specs.Prelude.{Vec}
use Rattle.std.specs.Global.{Global}
use Rattle.tpl_ast.specs.declared.template.Item.{Item}
use Rattle.gen_search.specs.Search.{in_turn, numbered, picked}

abbrev pub Each : (Vec Item Global → Type 0) → List (ℕ × Vec Item Global) → Type 0
Each holds [] = Unit {0}
Each holds (w ∷ ws) = holds w.1 × Each holds ws

module _ (holds : Vec Item Global → Type 0) where
  each_append : (xs ys : List (ℕ × Vec Item Global)) → Each holds xs → Each holds ys → Each holds (xs ++ ys)
  each_append [] ys each more = more
  each_append (x ∷ xs) ys each more = (each.0, each_append xs ys each.1 more)

  each_drop : (n : ℕ) (xs : List (ℕ × Vec Item Global)) → Each holds xs → Each holds (drop n xs)
  each_drop zero xs each = each
  each_drop (suc n) [] each = tt
  each_drop (suc n) (x ∷ xs) each = each_drop n xs each.1

  each_take : (n : ℕ) (xs : List (ℕ × Vec Item Global)) → Each holds xs → Each holds (take n xs)
  each_take zero xs each = tt
  each_take (suc n) [] each = tt
  each_take (suc n) (x ∷ xs) each = (each.0, each_take n xs each.1)

  each_numbered : (n : ℕ) (ws : List (ℕ × Vec Item Global)) → Each holds ws → Each holds (numbered n ws)
  each_numbered n [] each = tt
  each_numbered n (w ∷ ws) each = (each.0, each_numbered (n + 1) ws each.1)

  -- in whatever order they are tried
  pub each_in_turn : (ws : List (ℕ × Vec Item Global)) (draw : ℕ) → Each holds ws → Each holds (in_turn ws draw)
  each_in_turn ws draw each =
      let all = each_numbered 0 ws each in
      each_append (drop (picked ws draw) (numbered 0 ws)) (take (picked ws draw) (numbered 0 ws)) (each_drop (picked ws draw) (numbered 0 ws) all) (each_take (picked ws draw) (numbered 0 ws) all)
