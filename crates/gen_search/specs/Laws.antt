-- Laws of the search.
use Rattle.std.specs.Prelude.{◌≡◌, ℕ, ◌+◌, ◌≤◌, List, [], ◌∷◌, ◌++◌, Vec}
use Rattle.std.specs.Global.{Global}
use Rattle.rand_pcg.specs.Lcg.{Lcg}
use Rattle.tpl_ast.specs.declared.template.HartDecl.{HartDecl}
use Rattle.tpl_ast.specs.declared.template.Item.{Item}
use Rattle.tpl_ast.specs.declared.template.Item.TheViews as views
use Rattle.tpl_ast.specs.declared.template.Item.TheVariants as variants
use Rattle.gen_search.specs.declared.draws.Tally.{Tally}
use Rattle.gen_search.specs.Draws.{words, behind}
use Rattle.gen_search.specs.Search.{Rules, Turned, Taken, IsLeaf, Outcome, OrElse, Walks, Tries, SearchResult, Done, NoTest, Searches, draw_made, of_hart}
use Rattle.gen_search.specs.Fit.{CanSearch}
use Rattle.gen_search.specs.Ready.{AllowsAll, BodiesAreReady}

-- ---- what is asked of the rules, of leaves with draws that come one after another

-- what can be taken on a whole can be taken on those that a leaf turn, a label and an alternative make of it
pub record StillAllows {W : Type 0} (can : W → ℕ → Item → Type 0) (rules : Rules W) : Type 0 where
  pub turn : (hart line : ℕ) (leaf : Item) (g : Lcg) (whole next : W) → IsLeaf leaf line → can whole hart leaf → rules.turn hart leaf (words 16 g) whole (Taken next) → AllowsAll can whole next
  pub label : (hart name : ℕ) (whole : W) → can whole hart (variants.Label name) → AllowsAll can whole (rules.label hart name whole)
  pub way : (n : ℕ) (whole : W) → AllowsAll can whole (rules.way n whole)

-- a leaf turn that can be taken has no two answers
abbrev pub HasOneAnswer : {W : Type 0} → (W → ℕ → Item → Type 0) → Rules W → Type 0
HasOneAnswer {W} can rules = (hart line : ℕ) (leaf : Item) (g : Lcg) (whole : W) (a b : Turned W) → IsLeaf leaf line → can whole hart leaf → rules.turn hart leaf (words 16 g) whole a → rules.turn hart leaf (words 16 g) whole b → a ≡ b

-- and it has one
abbrev pub HasSomeAnswer : {W : Type 0} → (W → ℕ → Item → Type 0) → Rules W → Type 0
HasSomeAnswer {W} can rules = (hart line : ℕ) (leaf : Item) (g : Lcg) (whole : W) → IsLeaf leaf line → can whole hart leaf → (a : Turned W) × rules.turn hart leaf (words 16 g) whole a

-- ---- results

-- a search has no two results where no turn that comes up has two answers
abbrev pub HasOneResult : {W : Type 0} → (W → ℕ → Item → Type 0) → Rules W → Type 0
HasOneResult {W} can rules = StillAllows can rules → HasOneAnswer can rules → (harts : List HartDecl) (seed turns : ℕ) (first : W) (r s : SearchResult W) → BodiesAreReady (can first) harts → Searches rules harts seed turns first r → Searches rules harts seed turns first s → r ≡ s

-- and it has one where each turn that comes up has an answer, and an alternative of each choice can be picked
abbrev pub HasSomeResult : {W : Type 0} → (W → ℕ → Item → Type 0) → Rules W → Type 0
HasSomeResult {W} can rules = StillAllows can rules → HasSomeAnswer can rules → (harts : List HartDecl) (seed turns : ℕ) (first : W) → CanSearch harts → BodiesAreReady (can first) harts → (r : SearchResult W) × Searches rules harts seed turns first r

-- a result tells of at most so many leaf turns, and of just as many where there is no test
abbrev pub IsBounded : {W : Type 0} → ℕ → SearchResult W → Type 0
IsBounded turns (Done whole t) = t.turns ≤ turns
IsBounded turns (NoTest t) = t.turns ≡ turns

abbrev pub ResultsAreBounded : {W : Type 0} → Rules W → Type 0
ResultsAreBounded {W} rules = (harts : List HartDecl) (seed turns : ℕ) (first : W) (r : SearchResult W) → Searches rules harts seed turns first r → IsBounded turns r

-- ---- choices

-- each follows from the other
abbrev Same : Type 0 → Type 0 → Type 0
Same A B = (A → B) × (B → A)

-- a choice of one alternative is that alternative, one draw later
abbrev pub OneWayIsTaken : {W : Type 0} → Rules W → Type 0
OneWayIsTaken {W} rules = (turns hart line weight : ℕ) (body : Vec Item Global) (ways : Vec (ℕ × Vec Item Global) Global) (todo : List (ℕ × Item)) (whole : W) (t : Tally) (o : Outcome W) → ways.items ≡ (weight, body) ∷ []
    → Same (Walks rules turns ((hart, views.Choose line ways) ∷ todo) whole t o) (Walks rules turns (of_hart hart body.items ++ todo) (rules.way 0 whole) (draw_made t) o)

-- of the alternatives the later ones are tried where the earlier ones are dead, from the same whole, with what was counted and drawn till then
abbrev pub TriesGoOn : {W : Type 0} → Rules W → Type 0
TriesGoOn {W} rules = (turns hart : ℕ) (xs ys : List (ℕ × Vec Item Global)) (todo : List (ℕ × Item)) (whole : W) (t : Tally) (o : Outcome W)
    → Same (Tries rules turns hart (xs ++ ys) todo whole t o) (OrElse (Tries rules turns hart xs todo whole t) (Tries rules turns hart ys todo whole) o)

-- ---- draws

-- draws that are taken one time after another are the words of the generator in order
pub record DrawsInOrder (n m : ℕ) (g : Lcg) : Type 0 where
  pub taken : words (n + m) g ≡ words n g ++ words m (behind n g)
  pub left : behind (n + m) g ≡ behind m (behind n g)

abbrev pub DrawsAreInOrder : Type 0
DrawsAreInOrder = (n m : ℕ) (g : Lcg) → DrawsInOrder n m g
