-- An alternative that is taken.
use Rattle.std.proofs.Common.{◌≡◌, ℕ, ◌+◌, ◌<◌, List, [], ◌∷◌, ◌++◌, length, get_or, take, drop, Option, Some, sym, ap, ◌∙◌, subst, append-nil}
use Rattle.std.specs.Prelude.{Vec}
use Rattle.std.specs.Global.{Global}
use Rattle.std.specs.List.{slice_get}
use Rattle.rand_pcg.specs.Lcg.{Lcg}
use Rattle.rand_pcg.specs.Pcg.{pcg32}
use Rattle.tpl_ast.specs.declared.template.Item.{Item}
use Rattle.gen_search.specs.declared.choice.Choice.{Choice}
use Rattle.gen_search.specs.declared.place.Place.{Place}
use Rattle.gen_search.specs.declared.draws.Tally.{Tally}
use Rattle.gen_search.specs.Search.{Rules, Outcome, Walks, Tries, leads, stops, goes_on, cyclically, numbered, picked, in_turn, draw_made, of_hart, all_items, copies, OrElse, is_dead, is_finished, is_given_up}
use Rattle.gen_search.specs.Places.{AreMarked, ComesBack, Inside, laid, laid_blocks, steps_left, steps_of_blocks, steps_of_harts, untried}
use Rattle.gen_search.specs.Internal.Tries.{IsCyclic}
use Rattle.gen_search.proofs.Kept.{get_kept, inside_append, inside_kept, inside_more}
use Rattle.gen_search.proofs.Tries.{next_try}

pub same_laid : (p q : Place) → p.hart ≡ q.hart → p.later ≡ q.later → p.blocks.items ≡ q.blocks.items → laid p ≡ laid q
same_laid p q hart later blocks = λ i. laid_blocks (hart i) (blocks i) ++ all_items (hart i + 1) (later i).now

pub same_steps : (p q : Place) → p.later ≡ q.later → p.blocks.items ≡ q.blocks.items → steps_left p ≡ steps_left q
same_steps p q later blocks = λ i. steps_of_blocks (blocks i) + steps_of_harts (later i).now

-- the same choice with one more try
abbrev pub tried_on : Choice → Choice
tried_on c = record { mark = c.mark; place = c.place; ways = c.ways; picked = c.picked; tried = c.tried + 1 }

pub next_untried : (c : Choice) (k : ℕ) (d : ℕ × Vec Item Global) → c.picked < length c.ways.now → c.tried < length c.ways.now → IsCyclic c.picked c.tried (length c.ways.now) k
    → untried c ≡ (k, (get_or c.ways.now k d).1) ∷ untried (tried_on c)
next_untried c k d below inside turn = next_try c.picked c.ways.now c.tried k d below inside turn

module _ {W : Type 0} (rules : Rules W) (turns : ℕ) where
  -- a body that is entered once, before what was left
  entered_walks : (hart : ℕ) (items : List Item) (left todo : List (ℕ × Item)) (whole next : W) (t : Tally) (o : Outcome W) → todo ≡ copies 1 (of_hart hart items) ++ left → whole ≡ next
      → Walks rules turns todo whole t o → Walks rules turns (of_hart hart items ++ left) next t o
  entered_walks hart items left todo whole next t o is same walks =
      let plain : todo ≡ of_hart hart items ++ left = is ∙ ap (λ (xs : List (ℕ × Item)). xs ++ left) (append-nil (of_hart hart items)) in
      subst (λ (w : W). Walks rules turns (of_hart hart items ++ left) w t o) same (subst (λ (xs : List (ℕ × Item)). Walks rules turns xs whole t o) plain walks)

  -- an alternative, or else those behind it
  one_tried : (hart k : ℕ) (body : Vec Item Global) (ways : List (ℕ × Vec Item Global)) (left todo : List (ℕ × Item)) (whole next : W) (t : Tally) (p : Place) (o : Outcome W)
      → todo ≡ copies 1 (of_hart p.hart body.items) ++ laid p → next ≡ rules.way k whole
      → OrElse (Walks rules turns todo next t) (ComesBack rules turns ways p (Some whole)) o → Tries rules turns p.hart ((k, body) ∷ ways) (laid p) whole t o
  one_tried hart k body ways left todo whole next t p _ is same (is_finished walks) = leads (entered_walks p.hart body.items (laid p) todo next (rules.way k whole) t _ is same walks)
  one_tried hart k body ways left todo whole next t p _ is same (is_given_up walks) = stops (entered_walks p.hart body.items (laid p) todo next (rules.way k whole) t _ is same walks)
  one_tried hart k body ways left todo whole next t p _ is same (is_dead walks tries) = goes_on (entered_walks p.hart body.items (laid p) todo next (rules.way k whole) t _ is same walks) tries

  pub way_taken : (ws new : List W) (whole next : W) (cs others : List Choice) (c : Choice) (k : ℕ) (body : Vec Item Global) (todo : List (ℕ × Item)) (low : ℕ) (t : Tally) (o : Outcome W)
      → take (length ws) new ≡ ws → c.mark < length ws → AreMarked low cs c.mark → slice_get ws c.mark ≡ Some whole
      → next ≡ rules.way k whole → others ≡ cs ++ (tried_on c ∷ []) → untried c ≡ (k, body) ∷ untried (tried_on c)
      → todo ≡ copies 1 (of_hart c.place.hart body.items) ++ laid c.place
      → Inside rules turns new others (Walks rules turns todo next t) o → Inside rules turns ws cs (ComesBack rules turns (untried c) c.place (Some whole) t) o
  way_taken ws new whole next cs others c k body todo low t o same lt marked stands is opened left entered goes =
      let walks : Outcome W → Type 0 = Walks rules turns todo next t in
      let behind : Outcome W → Type 0 = Inside rules turns new (tried_on c ∷ []) walks in
      let back : slice_get new c.mark ≡ Some whole = get_kept ws new c.mark same lt ∙ stands in
      let split : Inside rules turns new others walks ≡ Inside rules turns ws cs behind =
      ap (λ (xs : List Choice). Inside rules turns new xs walks) opened ∙ inside_append rules turns new cs (tried_on c ∷ []) walks ∙ inside_kept rules turns ws new low cs c.mark behind same lt marked in
      let more : (p : Outcome W) → behind p → ComesBack rules turns (untried c) c.place (Some whole) t p = λ p either.
      subst (λ (us : List (ℕ × Vec Item Global)). Tries rules turns c.place.hart us (laid c.place) whole t p) (sym left)
      (one_tried c.place.hart k body (untried (tried_on c)) (laid c.place) todo whole next t c.place p entered is
      (subst (λ (w : Option W). OrElse walks (ComesBack rules turns (untried (tried_on c)) c.place w) p) back either)) in
      inside_more rules turns ws cs behind (ComesBack rules turns (untried c) c.place (Some whole) t) more o (subst (λ (s : Outcome W → Type 0). s o) split goes)

  -- a choice that was just entered
  pub choice_begun : (copied place : Place) (ways : List (ℕ × Vec Item Global)) (whole : W) (t : Tally) (draw pick : ℕ) (g : Lcg) (o : Outcome W)
      → copied.hart ≡ place.hart → laid copied ≡ laid place → pick ≡ picked ways draw → draw ≡ (pcg32 t.draws).0 → g ≡ (pcg32 t.draws).1
      → ComesBack rules turns (drop 0 (cyclically pick (numbered 0 ways))) copied (Some whole) (record t { draws = g }) o → Tries rules turns place.hart (in_turn ways (pcg32 t.draws).0) (laid place) whole (draw_made t) o
  choice_begun copied place ways whole t draw pick g o hart left is word draws back =
      let by : pick ≡ picked ways (pcg32 t.draws).0 = is ∙ ap (picked ways) word in
      let same : Tries rules turns copied.hart (cyclically pick (numbered 0 ways)) (laid copied) whole (record t { draws = g }) o ≡ Tries rules turns place.hart (in_turn ways (pcg32 t.draws).0) (laid place) whole (draw_made t) o =
      λ i. Tries rules turns (hart i) (cyclically (by i) (numbered 0 ways)) (left i) whole (record t { draws = draws i }) o in
      subst (λ (A : Type 0). A) same back
