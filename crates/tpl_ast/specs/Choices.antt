-- Choices of which an alternative can be picked.
use Rattle.std.specs.Prelude.{ℕ, ◌+◌, ◌^◌, Bool, true, ◌&&◌, nat_lt, List, [], ◌∷◌, length, map, Vec}
use Rattle.std.specs.Global.{Global}
use Rattle.tpl_ast.specs.declared.template.Item.{Item}
use Rattle.tpl_ast.specs.declared.template.Item.TheOpen.{Item-F}
use Rattle.tpl_ast.specs.declared.template.Item.TheOpen as layers
use Rattle.tpl_ast.specs.declared.template.Item.TheFolds.{fold-Item}

-- the weights of alternatives together
abbrev pub weight_of : {A : Type 0} → List (ℕ × A) → ℕ
weight_of [] = 0
weight_of (w ∷ ws) = w.0 + weight_of ws

-- a choice has weights, which fit 64 bits together, and fewer than 2 ^ 32 alternatives
abbrev pub can_pick : {A : Type 0} → List (ℕ × A) → Bool
can_pick ways = nat_lt 0 (weight_of ways) && (nat_lt (weight_of ways) (2 ^ 64) && nat_lt (length ways) (2 ^ 32))

abbrev pub all_true : List Bool → Bool
all_true [] = true
all_true (b ∷ bs) = b && all_true bs

abbrev pub all_ways : List (ℕ × Vec Bool Global) → Bool
all_ways [] = true
all_ways (w ∷ ws) = all_true w.1.items && all_ways ws

abbrev pub fit_in : Item-F Bool → Bool
fit_in (layers.Leaf line wishes) = true
fit_in (layers.FetchFault line causes) = true
fit_in (layers.Seq body) = all_true body.items
fit_in (layers.Repeat times body) = all_true body.items
fit_in (layers.Choose line ways) = can_pick ways.items && all_ways ways.items
fit_in (layers.Label name) = true

-- an alternative can be picked of each choice in an item
abbrev pub is_fit : Item → Bool
is_fit = fold-Item Bool fit_in

-- the same of the alternatives of a choice
abbrev pub are_ways_fit : List (ℕ × Vec Item Global) → Bool
are_ways_fit [] = true
are_ways_fit (w ∷ ws) = all_true (map is_fit w.1.items) && are_ways_fit ws
