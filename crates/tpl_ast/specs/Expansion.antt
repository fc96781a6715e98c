-- Bodies expanded: repeats piece by piece, and of each choice the alternative that was taken.
use Rattle.std.specs.Prelude.{ℕ, zero, suc, ◌+◌, List, [], ◌∷◌, ◌++◌, map, Option, Some, None, Vec}
use Rattle.std.specs.Global.{Global}
use Rattle.std.specs.List.{slice_get}
use Rattle.tpl_ast.specs.declared.template.Item.{Item}
use Rattle.tpl_ast.specs.declared.template.Item.TheOpen.{Item-F}
use Rattle.tpl_ast.specs.declared.template.Item.TheOpen as layers
use Rattle.tpl_ast.specs.declared.template.Item.TheFolds.{fold-Item}
use Rattle.tpl_ast.specs.declared.template.Wish.{Wish}

pub data Piece : Type 0 where
  -- a leaf's atoms
  Leaf : List Wish → Piece
  -- the causes of a failing fetch
  FetchFault : List ℕ → Piece
  -- the index of a name
  Label : ℕ → Piece
  -- a choice for which no number is left, or whose number names no alternative; nothing follows it
  Stuck : Piece

-- the pieces of a body, and the numbers of choices that are left behind it, None where it got stuck
pub record Expanded : Type 0 where
  pub pieces : List Piece
  pub left : Option (List ℕ)

-- what a body is expanded to, by the numbers that its choices take
abbrev pub Expanding : Type 0
Expanding = List ℕ → Expanded

abbrev pub nothing : Expanding
nothing choices = record { pieces = []; left = Some choices }

abbrev pub one : Piece → Expanding
one p choices = record { pieces = p ∷ []; left = Some choices }

abbrev pub stuck : Expanded
stuck = record { pieces = Stuck ∷ []; left = None }

abbrev pub behind : Expanded → Expanding → Expanded
behind l next = elim (l.left) [
  | None ↦ l
  | Some choices ↦ let n = next choices in record { pieces = l.pieces ++ n.pieces; left = n.left }
]

abbrev pub in_order : List Expanding → Expanding
in_order [] choices = nothing choices
in_order (x ∷ xs) choices = behind (x choices) (in_order xs)

abbrev pub repeated : ℕ → Expanding → Expanding
repeated zero x choices = nothing choices
repeated (suc n) x choices = behind (x choices) (repeated n x)

-- the alternative that a number names, from 0
abbrev pub taken : Option (ℕ × Vec Expanding Global) → Expanding
taken None choices = stuck
taken (Some way) choices = in_order way.1.items choices

-- a choice takes the next number
abbrev pub chosen : List (ℕ × Vec Expanding Global) → Expanding
chosen ways [] = stuck
chosen ways (n ∷ choices) = taken (slice_get ways n) choices

-- one item, with each inner item expanded in its place
abbrev pub expanded_in : Item-F Expanding → Expanding
expanded_in (layers.Leaf line wishes) = one (Leaf wishes.items)
expanded_in (layers.FetchFault line causes) = one (FetchFault causes)
expanded_in (layers.Seq body) = in_order body.items
expanded_in (layers.Repeat times body) = repeated times (in_order body.items)
expanded_in (layers.Choose line ways) = chosen ways.items
expanded_in (layers.Label name) = one (Label name)

abbrev pub expansion_of_item : Item → Expanding
expansion_of_item = fold-Item Expanding expanded_in

-- the expansion of a body
abbrev pub expansion_of : List Item → Expanding
expansion_of items = in_order (map expansion_of_item items)

-- how many records pieces have
abbrev pub records_in : List Piece → ℕ
records_in [] = 0
records_in (Leaf ws ∷ ps) = 1 + records_in ps
records_in (FetchFault ns ∷ ps) = 1 + records_in ps
records_in (Label n ∷ ps) = records_in ps
records_in (Stuck ∷ ps) = records_in ps
