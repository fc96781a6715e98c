-- A body as the list of its lines.
use Rattle.std.specs.Prelude.{ℕ, List, [], ◌∷◌, ◌++◌, map, Vec}
use Rattle.std.specs.Global.{Global}
use Rattle.tpl_ast.specs.declared.template.HartDecl.{HartDecl}
use Rattle.tpl_ast.specs.declared.template.HartState.{HartState}
use Rattle.tpl_ast.specs.declared.template.Item.{Item}
use Rattle.tpl_ast.specs.declared.template.Item.TheOpen.{Item-F}
use Rattle.tpl_ast.specs.declared.template.Item.TheOpen as layers
use Rattle.tpl_ast.specs.declared.template.Item.TheFolds.{fold-Item}
use Rattle.tpl_ast.specs.declared.template.Wish.{Wish}

-- a line of a body
pub data BodyLine : Type 0 where
  -- a leaf's line number and its atoms
  Leaf : ℕ → List Wish → BodyLine
  -- its line number and the causes of the fetch
  FetchFault : ℕ → List ℕ → BodyLine
  EnterSeq : BodyLine
  EnterRepeat : ℕ → BodyLine
  -- its line number
  EnterChoose : ℕ → BodyLine
  -- a weight
  EnterWay : ℕ → BodyLine
  -- the index of a name
  LabelOf : ℕ → BodyLine
  Leave : BodyLine

-- the lists of a list, one after another
abbrev pub joined : List (List BodyLine) → List BodyLine
joined [] = []
joined (ls ∷ rest) = ls ++ joined rest

-- alternatives, each with the lines of its items
abbrev pub lines_of_ways : List (ℕ × Vec (List BodyLine) Global) → List BodyLine
lines_of_ways [] = []
lines_of_ways (w ∷ ws) = EnterWay w.0 ∷ joined w.1.items ++ Leave ∷ lines_of_ways ws

-- one item, with the lines of each inner item in its place
abbrev pub lines_in : Item-F (List BodyLine) → List BodyLine
lines_in (layers.Leaf line wishes) = Leaf line wishes.items ∷ []
lines_in (layers.FetchFault line causes) = FetchFault line causes ∷ []
lines_in (layers.Seq body) = EnterSeq ∷ joined body.items ++ Leave ∷ []
lines_in (layers.Repeat times body) = EnterRepeat times ∷ joined body.items ++ Leave ∷ []
lines_in (layers.Choose line ways) = EnterChoose line ∷ lines_of_ways ways.items ++ Leave ∷ []
lines_in (layers.Label name) = LabelOf name ∷ []

-- the lines of an item
abbrev pub lines_of_item : Item → List BodyLine
lines_of_item = fold-Item (List BodyLine) lines_in

-- the lines of a body
abbrev pub lines_of_body : List Item → List BodyLine
lines_of_body items = joined (map lines_of_item items)

-- a hart, with its body as the list of its lines
pub record HartLines : Type 0 where
  pub start : HartState
  pub body : List BodyLine

abbrev pub hart_lines : HartDecl → HartLines
hart_lines h = record { start = h.start; body = lines_of_body h.body.items }
