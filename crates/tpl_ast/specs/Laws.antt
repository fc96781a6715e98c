-- Laws of templates.
use Rattle.std.specs.Prelude.{◌≡◌, ℕ, ◌<◌, ◌≤◌, List, length, ◌+◌, Vec, slice_index_or, Some}
use Rattle.std.specs.Global.{Global}
use Rattle.tpl_ast.specs.declared.template.Item.{Item}
use Rattle.tpl_ast.specs.declared.template.Item.TheViews as views
use Rattle.tpl_ast.specs.Bodies.{lines_of_body}
use Rattle.tpl_ast.specs.Depths.{size_of_body, size_of_item, size_of_ways}
use Rattle.tpl_ast.specs.Expansion.{expansion_of, records_in}
use Rattle.tpl_ast.specs.Lengths.{fixed_of_body, length_of_body}

-- ---- sizes of bodies, which fall at each step into a body

pub record SizesFall : Type 0 where
  pub items : (items : List Item) (i : ℕ) (d : Item) → i < length items → size_of_item (slice_index_or items i d) ≤ size_of_body items
  pub ways : (ways : List (ℕ × Vec Item Global)) (i : ℕ) (d : ℕ × Vec Item Global) → i < length ways → size_of_body (slice_index_or ways i d).1.items < size_of_ways ways
  pub seq : (body : Vec Item Global) → size_of_item (views.Seq body) ≡ 1 + size_of_body body.items
  pub repeat : (times : ℕ) (body : Vec Item Global) → size_of_item (views.Repeat times body) ≡ 1 + size_of_body body.items
  pub choose : (line : ℕ) (ways : Vec (ℕ × Vec Item Global) Global) → size_of_item (views.Choose line ways) ≡ 1 + size_of_ways ways.items

-- ---- what bodies are expanded to

-- bodies of the same lines are expanded alike
abbrev pub LinesTellExpansions : Type 0
LinesTellExpansions = (is js : List Item) → lines_of_body is ≡ lines_of_body js → expansion_of is ≡ expansion_of js

-- a body is expanded to at most as many records as its length says
abbrev pub LengthsBound : Type 0
LengthsBound = (items : List Item) (choices : List ℕ) → records_in (expansion_of items choices).pieces ≤ length_of_body items

-- and as just as many where their number is left to no choice
abbrev pub FixedLengthsAreExact : Type 0
FixedLengthsAreExact = (items : List Item) (choices : List ℕ) (n : ℕ) → fixed_of_body items ≡ Some n → (length_of_body items ≡ n) × (records_in (expansion_of items choices).pieces ≡ n)
