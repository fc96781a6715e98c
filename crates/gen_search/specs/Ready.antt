-- What a walk needs of a whole for the leaves and labels that it comes to.
use Rattle.std.specs.Prelude.{◌≡◌, ℕ, List, [], ◌∷◌, ◌++◌, map, Some, Vec}
use Rattle.std.specs.Global.{Global}
use Rattle.std.specs.List.{slice_get}
use Rattle.tpl_ast.specs.declared.template.HartDecl.{HartDecl}
use Rattle.tpl_ast.specs.declared.template.Item.{Item}
use Rattle.tpl_ast.specs.declared.template.Item.TheVariants as variants
use Rattle.tpl_ast.specs.declared.template.Item.TheOpen.{Item-F}
use Rattle.tpl_ast.specs.declared.template.Item.TheOpen as layers
use Rattle.tpl_ast.specs.declared.template.Item.TheFolds.{fold-Item}
use Rattle.gen_search.specs.declared.choice.Choice.{Choice}
use Rattle.gen_search.specs.declared.walk.Walk.{Walk}
use Rattle.gen_search.specs.Search.{all_items}
use Rattle.gen_search.specs.Places.{laid}

-- ---- the leaves and labels inside of items

abbrev pub joined : List (List Item) → List Item
joined [] = []
joined (xs ∷ xss) = xs ++ joined xss

abbrev pub joined_ways : List (ℕ × Vec (List Item) Global) → List Item
joined_ways [] = []
joined_ways (w ∷ ws) = joined w.1.items ++ joined_ways ws

abbrev pub parts_in : Item-F (List Item) → List Item
parts_in (layers.Leaf line wishes) = variants.Leaf line wishes ∷ []
parts_in (layers.FetchFault line causes) = variants.FetchFault line causes ∷ []
parts_in (layers.Seq body) = joined body.items
parts_in (layers.Repeat times body) = joined body.items
parts_in (layers.Choose line ways) = joined_ways ways.items
parts_in (layers.Label name) = variants.Label name ∷ []

-- the leaves and labels of an item, each as often as it is written
abbrev pub parts_of : Item → List Item
parts_of = fold-Item (List Item) parts_in

abbrev pub parts_of_body : List Item → List Item
parts_of_body items = joined (map parts_of items)

abbrev pub parts_of_ways : List (ℕ × Vec Item Global) → List Item
parts_of_ways [] = []
parts_of_ways (w ∷ ws) = parts_of_body w.1.items ++ parts_of_ways ws

-- ---- what they need

-- each of a hart's leaves and labels can be taken
abbrev pub AreAllowed : (ℕ → Item → Type 0) → ℕ → List Item → Type 0
AreAllowed can hart [] = Unit {0}
AreAllowed can hart (i ∷ is) = can hart i × AreAllowed can hart is

-- each of those in items of harts can
abbrev pub AreReady : (ℕ → Item → Type 0) → List (ℕ × Item) → Type 0
AreReady can [] = Unit {0}
AreReady can (x ∷ xs) = AreAllowed can x.0 (parts_of x.1) × AreReady can xs

-- those of the bodies of harts can
abbrev pub BodiesAreReady : (ℕ → Item → Type 0) → List HartDecl → Type 0
BodiesAreReady can harts = AreReady can (all_items 0 harts)

-- what can be taken on a whole can be taken on another
abbrev pub AllowsAll : {W : Type 0} → (W → ℕ → Item → Type 0) → W → W → Type 0
AllowsAll can old new = (hart : ℕ) (item : Item) → can old hart item → can new hart item

-- ---- a walk whose leaves and labels can all be taken on its first whole, and so on those that it may stand on or come back to

pub record IsChoiceReady {W : Type 0} (can : W → ℕ → Item → Type 0) (first : W) (ws : List W) (c : Choice) : Type 0 where
  pub ways : AreAllowed (can first) c.place.hart (parts_of_ways c.ways.now)
  pub place : AreReady (can first) (laid c.place)
  pub whole : (w : W) → slice_get ws c.mark ≡ Some w → AllowsAll can first w

abbrev pub AreChoicesReady : {W : Type 0} → (W → ℕ → Item → Type 0) → W → List W → List Choice → Type 0
AreChoicesReady can first ws [] = Unit {0}
AreChoicesReady can first ws (c ∷ cs) = IsChoiceReady can first ws c × AreChoicesReady can first ws cs

-- the choices that a walk stands in can be come back to, and its beginning
pub record CanComeBack {W : Type 0} (can : W → ℕ → Item → Type 0) (first : W) (ws : List W) (w : Walk) : Type 0 where
  pub harts : BodiesAreReady (can first) w.harts.now
  pub start : slice_get ws w.start ≡ Some first
  pub choices : AreChoicesReady can first ws w.choices.items

pub record IsReady {W : Type 0} (can : W → ℕ → Item → Type 0) (first : W) (ws : List W) (stands : W) (w : Walk) : Type 0 where
  pub back : CanComeBack can first ws w
  pub place : AreReady (can first) (laid w.place)
  pub whole : AllowsAll can first stands
