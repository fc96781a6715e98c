-- Searches of harts whose bodies stand in the same lines, from wholes that answer alike.
use Rattle.std.specs.Prelude.{◌≡◌, ℕ, List, map, Vec}
use Rattle.std.specs.Global.{Global}
use Rattle.tpl_ast.specs.declared.template.HartDecl.{HartDecl}
use Rattle.tpl_ast.specs.declared.template.Item.{Item}
use Rattle.tpl_ast.specs.declared.template.Item.TheVariants as variants
use Rattle.tpl_ast.specs.declared.template.Wish.{Wish}
use Rattle.tpl_ast.specs.Bodies.{hart_lines}
use Rattle.gen_search.specs.Search.{Rules, Turned, Taken, NoneFits, Spent, SearchResult, Done, NoTest, Searches}

-- leaves that say the same
pub data SameLeaf : Item → Item → Type 0 where
  same_do : (line : ℕ) (ws vs : Vec Wish Global) → ws.items ≡ vs.items → SameLeaf (variants.Leaf line ws) (variants.Leaf line vs)
  same_fault : (line : ℕ) (causes : List ℕ) → SameLeaf (variants.FetchFault line causes) (variants.FetchFault line causes)

-- an answer and a result with another whole
abbrev pub turned_by : {V W : Type 0} → (V → W) → Turned V → Turned W
turned_by f (Taken w) = Taken (f w)
turned_by f NoneFits = NoneFits
turned_by f Spent = Spent

abbrev pub result_by : {V W : Type 0} → (V → W) → SearchResult V → SearchResult W
result_by f (Done w t) = Done (f w) t
result_by f (NoTest t) = NoTest t

-- what leaves, labels and alternatives make of a whole they make of the one that takes its place, and so do leaves that say the same
pub record IsMove {W : Type 0} (rules : Rules W) (f : W → W) : Type 0 where
  pub turn : (hart : ℕ) (leaf other : Item) (draws : List ℕ) (whole : W) (r : Turned W) → SameLeaf leaf other
      → rules.turn hart leaf draws whole r → rules.turn hart other draws (f whole) (turned_by f r)
  pub label : (hart name : ℕ) (whole : W) → f (rules.label hart name whole) ≡ rules.label hart name (f whole)
  pub way : (way : ℕ) (whole : W) → f (rules.way way whole) ≡ rules.way way (f whole)

-- then a search comes to what one of other harts with the same starts and the same lines comes to
abbrev pub SearchesAreMoved : {W : Type 0} → Rules W → Type 0
SearchesAreMoved {W} rules =
    (f : W → W) → IsMove rules f → (harts others : List HartDecl) → map hart_lines harts ≡ map hart_lines others
    → (seed turns : ℕ) (first : W) (r : SearchResult W) → Searches rules harts seed turns first r → Searches rules others seed turns (f first) (result_by f r)
