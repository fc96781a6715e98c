-- The search for a test that a template asks for, over whole tests so far.
use Rattle.std.specs.Prelude.{ℕ, zero, suc, ◌+◌, ◌-◌, ◌%◌, ◌<◌, ◌≤◌, nat_lt, if◌then◌else◌, List, [], ◌∷◌, ◌++◌, take, drop, Vec}
use Rattle.std.specs.Global.{Global}
use Rattle.rand_pcg.specs.Pcg.{pcg32}
use Rattle.tpl_ast.specs.declared.template.HartDecl.{HartDecl}
use Rattle.tpl_ast.specs.declared.template.Item.{Item}
use Rattle.tpl_ast.specs.declared.template.Item.TheViews as views
use Rattle.tpl_ast.specs.declared.template.Item.TheVariants as variants
use Rattle.tpl_ast.specs.declared.template.Wish.{Wish}
use Rattle.tpl_ast.specs.Choices.{weight_of}
use Rattle.gen_search.specs.declared.draws.Tally.{Tally}
use Rattle.gen_search.specs.Draws.{words, behind, draws_of}

-- ---- what a search is over

-- the answer of a leaf turn: it was taken, which gives the next whole, or it is dead, since nothing fits or since a problem is too large
pub data Turned (W : Type 0) : Type 0 where
  Taken : W → Turned W
  NoneFits : Turned W
  Spent : Turned W

-- which answers a leaf turn of a hart with 16 draws has on a whole, and what becomes of a whole by a label of a hart, which binds a name to the hart's pc, and by an alternative that is taken, by its number from 0
pub record Rules (W : Type 0) : Type 1 where
  pub turn : ℕ → Item → List ℕ → W → Turned W → Type 0
  pub label : ℕ → ℕ → W → W
  pub way : ℕ → W → W

-- how a walk through what is left ends: nothing is left, or it is dead, or a further leaf turn was needed and none was left
pub data Outcome (W : Type 0) : Type 0 where
  Finished : W → Tally → Outcome W
  Dead : Tally → Outcome W
  GaveUp : Tally → Outcome W

-- what some outcomes lead to where only dead ones go on
pub data OrElse {W : Type 0} (first : Outcome W → Type 0) (next : Tally → Outcome W → Type 0) : Outcome W → Type 0 where
  is_finished : {whole : W} {t : Tally} → first (Finished whole t) → OrElse first next (Finished whole t)
  is_given_up : {t : Tally} → first (GaveUp t) → OrElse first next (GaveUp t)
  is_dead : {t : Tally} {o : Outcome W} → first (Dead t) → next t o → OrElse first next o

-- ---- leaves

-- a leaf, and its line
pub data IsLeaf : Item → ℕ → Type 0 where
  leaf : (line : ℕ) (wishes : Vec Wish Global) → IsLeaf (variants.Leaf line wishes) line
  fault : (line : ℕ) (causes : List ℕ) → IsLeaf (variants.FetchFault line causes) line

-- one more leaf turn was made, and its 16 draws are gone, whatever came of it
abbrev pub turn_made : Tally → Tally
turn_made t = record t { draws = behind 16 t.draws; turns = t.turns + 1 }

-- nothing fitted it, and its line is the last dead one
abbrev pub nothing_fitted : ℕ → Tally → Tally
nothing_fitted line t = record (turn_made t) { none_fits = t.none_fits + 1; last_line = line }

-- one of its problems was too large, and its line is the last dead one
abbrev pub was_spent : ℕ → Tally → Tally
was_spent line t = record (turn_made t) { spent = t.spent + 1; last_line = line }

-- ---- choices

-- the alternative whose range of weights holds a number, from 0
abbrev pub way_at : {A : Type 0} → List (ℕ × A) → ℕ → ℕ
way_at [] n = 0
way_at (w ∷ ws) n = if nat_lt n w.0 then 0 else 1 + way_at ws (n - w.0)

-- the alternative that a draw picks: the one whose range holds the draw modulo the sum of the weights
abbrev pub picked : {A : Type 0} → List (ℕ × A) → ℕ → ℕ
picked ways draw = way_at ways (draw % weight_of ways)

-- alternatives with their numbers in place of their weights
abbrev pub numbered : {A : Type 0} → ℕ → List (ℕ × A) → List (ℕ × A)
numbered n [] = []
numbered n (w ∷ ws) = (n, w.1) ∷ numbered (n + 1) ws

-- all of a list, cyclically from one on
abbrev pub cyclically : {A : Type 0} → ℕ → List A → List A
cyclically n xs = drop n xs ++ take n xs

-- alternatives by their numbers, in the order in which they are tried: cyclically from the one that a draw picks
abbrev pub in_turn : {A : Type 0} → List (ℕ × A) → ℕ → List (ℕ × A)
in_turn ways draw = cyclically (picked ways draw) (numbered 0 ways)

-- a choice takes one draw before its alternatives
abbrev pub draw_made : Tally → Tally
draw_made t = record t { draws = (pcg32 t.draws).1 }

-- ---- items, with their harts

abbrev pub of_hart : ℕ → List Item → List (ℕ × Item)
of_hart hart [] = []
of_hart hart (i ∷ is) = (hart, i) ∷ of_hart hart is

-- the bodies of harts, each to its end before the next one, from the number of a hart on
abbrev pub all_items : ℕ → List HartDecl → List (ℕ × Item)
all_items hart [] = []
all_items hart (h ∷ hs) = of_hart hart h.body.items ++ all_items (hart + 1) hs

-- items a number of times, one time after another
abbrev pub copies : {A : Type 0} → ℕ → List A → List A
copies zero xs = []
copies (suc n) xs = xs ++ copies n xs

-- ---- walks

mutual
  -- how a walk through what is left may end, from a whole and a tally on, with at most so many leaf turns
  pub data Walks {W : Type 0} (rules : Rules W) (turns : ℕ) : List (ℕ × Item) → W → Tally → Outcome W → Type 0 where
    -- with nothing left it is finished
    finished : {whole : W} {t : Tally}
        → Walks rules turns [] whole t (Finished whole t)
    -- at a leaf, where all turns were made, it gives up before it draws
    gives_up : {hart line : ℕ} {item : Item} {todo : List (ℕ × Item)} {whole : W} {t : Tally}
        → IsLeaf item line → turns ≤ t.turns
        → Walks rules turns ((hart, item) ∷ todo) whole t (GaveUp t)
    -- a leaf turn that is taken goes on from the whole that it gave
    taken : {hart line : ℕ} {item : Item} {todo : List (ℕ × Item)} {whole next : W} {t : Tally} {o : Outcome W}
        → IsLeaf item line → t.turns < turns → rules.turn hart item (words 16 t.draws) whole (Taken next)
        → Walks rules turns todo next (turn_made t) o → Walks rules turns ((hart, item) ∷ todo) whole t o
    -- a leaf turn that nothing fits is dead
    unfit : {hart line : ℕ} {item : Item} {todo : List (ℕ × Item)} {whole : W} {t : Tally}
        → IsLeaf item line → t.turns < turns → rules.turn hart item (words 16 t.draws) whole NoneFits
        → Walks rules turns ((hart, item) ∷ todo) whole t (Dead (nothing_fitted line t))
    -- and so is one with a problem that is too large
    too_large : {hart line : ℕ} {item : Item} {todo : List (ℕ × Item)} {whole : W} {t : Tally}
        → IsLeaf item line → t.turns < turns → rules.turn hart item (words 16 t.draws) whole Spent
        → Walks rules turns ((hart, item) ∷ todo) whole t (Dead (was_spent line t))
    -- a label is bound
    label : {hart : ℕ} (name : ℕ) {todo : List (ℕ × Item)} {whole : W} {t : Tally} {o : Outcome W}
        → Walks rules turns todo (rules.label hart name whole) t o → Walks rules turns ((hart, variants.Label name) ∷ todo) whole t o
    -- a sequence is its items, before what was left
    seq : {hart : ℕ} (body : Vec Item Global) {todo : List (ℕ × Item)} {whole : W} {t : Tally} {o : Outcome W}
        → Walks rules turns (of_hart hart body.items ++ todo) whole t o → Walks rules turns ((hart, views.Seq body) ∷ todo) whole t o
    -- a repeat is its body so many times, before what was left
    rep : {hart : ℕ} (times : ℕ) (body : Vec Item Global) {todo : List (ℕ × Item)} {whole : W} {t : Tally} {o : Outcome W}
        → Walks rules turns (copies times (of_hart hart body.items) ++ todo) whole t o → Walks rules turns ((hart, views.Repeat times body) ∷ todo) whole t o
    -- a choice takes one draw, and then its alternatives are tried, from the one that it picks on
    choose : {hart : ℕ} (line : ℕ) (ways : Vec (ℕ × Vec Item Global) Global) {todo : List (ℕ × Item)} {whole : W} {t : Tally} {o : Outcome W}
        → Tries rules turns hart (in_turn ways.items (pcg32 t.draws).0) todo whole (draw_made t) o → Walks rules turns ((hart, views.Choose line ways) ∷ todo) whole t o

  -- how the alternatives of a hart's choice may end, each from the same whole with its number noted, and each followed by all that comes after the choice
  pub data Tries {W : Type 0} (rules : Rules W) (turns : ℕ) : ℕ → List (ℕ × Vec Item Global) → List (ℕ × Item) → W → Tally → Outcome W → Type 0 where
    -- with none left they are dead
    none_left : {hart : ℕ} {todo : List (ℕ × Item)} {whole : W} {t : Tally}
        → Tries rules turns hart [] todo whole t (Dead t)
    -- the first one leads to the end
    leads : {hart : ℕ} {way : ℕ × Vec Item Global} {ways : List (ℕ × Vec Item Global)} {todo : List (ℕ × Item)} {whole next : W} {t u : Tally}
        → Walks rules turns (of_hart hart way.1.items ++ todo) (rules.way way.0 whole) t (Finished next u) → Tries rules turns hart (way ∷ ways) todo whole t (Finished next u)
    -- or the search gives up in it
    stops : {hart : ℕ} {way : ℕ × Vec Item Global} {ways : List (ℕ × Vec Item Global)} {todo : List (ℕ × Item)} {whole : W} {t u : Tally}
        → Walks rules turns (of_hart hart way.1.items ++ todo) (rules.way way.0 whole) t (GaveUp u) → Tries rules turns hart (way ∷ ways) todo whole t (GaveUp u)
    -- where it is dead the others are tried, and what was counted and drawn stays so
    goes_on : {hart : ℕ} {way : ℕ × Vec Item Global} {ways : List (ℕ × Vec Item Global)} {todo : List (ℕ × Item)} {whole : W} {t u : Tally} {o : Outcome W}
        → Walks rules turns (of_hart hart way.1.items ++ todo) (rules.way way.0 whole) t (Dead u)
        → Tries rules turns hart ways todo whole u o → Tries rules turns hart (way ∷ ways) todo whole t o

-- ---- the search

-- what a search finds: the whole in which it is done, or that it gave up, with what was counted
pub data SearchResult (W : Type 0) : Type 0 where
  Done : W → Tally → SearchResult W
  NoTest : Tally → SearchResult W

-- what the outcome of a walk comes to: where all is dead, what a new walk from the beginning comes to, with the draws and counts of then
pub data ComesTo {W : Type 0} (walks : Tally → Outcome W → Type 0) : Outcome W → SearchResult W → Type 0 where
  done : {whole : W} {t : Tally} → ComesTo walks (Finished whole t) (Done whole t)
  gave_up : {t : Tally} → ComesTo walks (GaveUp t) (NoTest t)
  again : {t : Tally} {o : Outcome W} {r : SearchResult W} → walks t o → ComesTo walks o r → ComesTo walks (Dead t) r

-- nothing is counted, no line is the last one, and the draws are those of a seed from the first on
abbrev pub fresh : ℕ → Tally
fresh seed = record { draws = draws_of seed; turns = 0; none_fits = 0; spent = 0; last_line = 0 }

-- how a walk through all bodies may end, from a whole on
abbrev pub WalksFrom : {W : Type 0} → Rules W → ℕ → List HartDecl → W → Tally → Outcome W → Type 0
WalksFrom rules turns harts first = Walks rules turns (all_items 0 harts) first

-- the search with a seed and at most so many leaf turns, from a whole on, has a result
abbrev pub Searches : {W : Type 0} → Rules W → List HartDecl → ℕ → ℕ → W → SearchResult W → Type 0
Searches {W} rules harts seed turns first result = (o : Outcome W) × WalksFrom rules turns harts first (fresh seed) o × ComesTo (WalksFrom rules turns harts first) o result
