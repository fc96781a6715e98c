-- A walk as the code keeps it, and what is ahead of it.
use Rattle.std.specs.Prelude.{◌≡◌, ℕ, ◌+◌, ◌<◌, ◌^◌, List, ◌∷◌, length, Vec}
use Rattle.std.specs.Global.{Global}
use Rattle.rand_pcg.specs.Lcg.{Lcg}
use Rattle.rand_pcg.specs.Pcg.{pcg32}
use Rattle.tpl_ast.specs.declared.template.HartDecl.{HartDecl}
use Rattle.tpl_ast.specs.declared.template.Item.{Item}
use Rattle.gen_search.specs.declared.draws.Tally.{Tally}
use Rattle.gen_search.specs.declared.walk.Leaf.{Leaf}
use Rattle.gen_search.specs.declared.walk.Walk.{Walk}
use Rattle.gen_search.specs.Search.{ComesTo, Dead, Outcome, Rules, SearchResult, Tries, Walks, WalksFrom, draw_made, in_turn}
use Rattle.gen_search.specs.Fit.{AreFit}
use Rattle.gen_search.specs.Places.{AreMarked, AreOpen, Inside, laid}

-- everything that is kept of a walk where the number of the whole that stands is known
pub record IsWell (high : ℕ) (w : Walk) : Type 0 where
  pub fit : AreFit (laid w.place)
  pub counted : w.place.hart + length w.place.later.now < 2 ^ 32
  pub choices : AreOpen w.choices.items
  pub marked : AreMarked w.start w.choices.items high

-- what the walk ends with
abbrev pub Ahead : {W : Type 0} → Rules W → ℕ → List W → W → Walk → Outcome W → Type 0
Ahead rules turns ws whole w = Inside rules turns ws w.choices.items (Walks rules turns (laid w.place) whole w.tally)

-- the same where a leaf comes before what is left
abbrev pub LeafAhead : {W : Type 0} → Rules W → ℕ → List W → W → Walk → Leaf → Outcome W → Type 0
LeafAhead rules turns ws whole w leaf = Inside rules turns ws w.choices.items (Walks rules turns ((w.place.hart, leaf.item.now) ∷ laid w.place) whole w.tally)

-- the same where a choice does
abbrev pub ChoiceAhead : {W : Type 0} → Rules W → ℕ → List W → W → Walk → List (ℕ × Vec Item Global) → Outcome W → Type 0
ChoiceAhead rules turns ws whole w ways = Inside rules turns ws w.choices.items (Tries rules turns w.place.hart (in_turn ways (pcg32 w.tally.draws).0) (laid w.place) whole (draw_made w.tally))

-- the same where a dead leaf was come to
abbrev pub DeadAhead : {W : Type 0} → Rules W → ℕ → List W → Walk → Outcome W → Type 0
DeadAhead rules turns ws w = Inside rules turns ws w.choices.items (λ o. o ≡ Dead w.tally)

-- one of these outcomes comes to a result of a search from a whole on
abbrev pub Leads : {W : Type 0} → Rules W → ℕ → List HartDecl → W → (Outcome W → Type 0) → SearchResult W → Type 0
Leads {W} rules turns harts first outcomes result = (o : Outcome W) × outcomes o × ComesTo (WalksFrom rules turns harts first) o result

abbrev pub with_draws : Lcg → Tally → Tally
with_draws g t = record t { draws = g }
