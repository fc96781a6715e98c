-- Where each leaf turn that can be taken has an answer, each walk ends, and one that is dead has made a leaf turn, so a search has a result.
use Rattle.std.proofs.Common.{◌≡◌, ℕ, zero, suc, ◌+◌, ◌*◌, ◌<◌, ◌≤◌, true, List, [], ◌∷◌, ◌++◌, map, length, length-append, take, drop, refl, sym, ◌∙◌, subst, inl, inr, arith}
use Rattle.std.specs.Prelude.{Vec}
use Rattle.std.specs.Global.{Global}
use Rattle.tpl_ast.specs.declared.template.Item.{Item}
use Rattle.tpl_ast.specs.declared.template.Item.TheFolds.{ind-Item}
use Rattle.tpl_ast.specs.declared.template.Item.TheOpen.{Item-F}
use Rattle.tpl_ast.specs.declared.template.Item.TheOpen as layers
use Rattle.tpl_ast.specs.declared.template.Item.TheViews.{roll-Item}
use Rattle.tpl_ast.specs.declared.template.Item.TheViews as views
use Rattle.tpl_ast.specs.declared.template.Item.TheVariants as variants
use Rattle.tpl_ast.specs.declared.template.Wish.{Wish}
use Rattle.rand_pcg.specs.Pcg.{pcg32}
use Rattle.gen_search.specs.declared.draws.Tally.{Tally}
use Rattle.gen_search.specs.Draws.{words}
use Rattle.tpl_ast.specs.Choices.{all_true, are_ways_fit, can_pick, is_fit, weight_of}
use Rattle.gen_search.specs.Search.{Rules, Turned, Taken, NoneFits, Spent, Outcome, Finished, Dead, GaveUp, IsLeaf, leaf, fault, Walks, WalksFrom, finished, gives_up, taken, unfit, too_large, label, seq, rep, choose, Tries, none_left, leads, stops, goes_on, SearchResult, Done, NoTest, ComesTo, done, gave_up, again, all_items, copies, cyclically, draw_made, fresh, in_turn, nothing_fitted, numbered, of_hart, picked, turn_made, was_spent}
use Rattle.gen_search.specs.Fit.{AreFit}
use Rattle.gen_search.specs.Steps.{longest_steps, steps_of, steps_of_body}
use Rattle.gen_search.specs.Laws.{HasSomeAnswer, HasSomeResult, StillAllows}
use Rattle.gen_search.specs.Ready.{AreAllowed, AreReady, parts_of_body}
use Rattle.gen_search.proofs.Blocks.{choose_steps, fault_steps, label_steps, leaf_steps, repeat_steps, seq_steps}
use Rattle.gen_search.proofs.Each.{Each, each_in_turn}
use Rattle.gen_search.proofs.Fitting.{choose_fit, fit_append, fit_body, fit_copies, repeat_fit, seq_fit}
use Rattle.gen_search.proofs.Ready.{body_before, first_choose, first_label, first_leaf, first_repeat, first_seq, ready_still}
use Rattle.gen_search.proofs.Tries.{near_or_far}
use Rattle.gen_search.proofs.Weights.{both_true, has_weight}

-- ---- the kinds of items

data Kind : Item → Type 0 where
  a_leaf : (line : ℕ) (wishes : Vec Wish Global) → Kind (variants.Leaf line wishes)
  a_fault : (line : ℕ) (causes : List ℕ) → Kind (variants.FetchFault line causes)
  a_seq : (body : Vec Item Global) → Kind (views.Seq body)
  a_repeat : (times : ℕ) (body : Vec Item Global) → Kind (views.Repeat times body)
  a_choice : (line : ℕ) (ways : Vec (ℕ × Vec Item Global) Global) → Kind (views.Choose line ways)
  a_label : (name : ℕ) → Kind (variants.Label name)

kind_of : (x : Item-F Item) → Kind (roll-Item x)
kind_of (layers.Leaf line wishes) = subst Kind (sym (variants.rolls-Leaf line wishes)) (a_leaf line wishes)
kind_of (layers.FetchFault line causes) = subst Kind (sym (variants.rolls-FetchFault line causes)) (a_fault line causes)
kind_of (layers.Seq body) = subst Kind (sym (variants.rolls-Seq body)) (a_seq body)
kind_of (layers.Repeat times body) = subst Kind (sym (variants.rolls-Repeat times body)) (a_repeat times body)
kind_of (layers.Choose line ways) = subst Kind (sym (variants.rolls-Choose line ways)) (a_choice line ways)
kind_of (layers.Label name) = subst Kind (sym (variants.rolls-Label name)) (a_label name)

kind : (i : Item) → Kind i
kind = ind-Item Kind (λ x y is. kind_of x)

-- ---- steps of what is left

abbrev steps_in_all : List (ℕ × Item) → ℕ
steps_in_all [] = 0
steps_in_all (x ∷ xs) = steps_of x.1 + steps_in_all xs

steps_append : (xs ys : List (ℕ × Item)) → steps_in_all (xs ++ ys) ≡ steps_in_all xs + steps_in_all ys
steps_append [] ys = omega arith
steps_append (x ∷ xs) ys = omega (arith, steps_append xs ys)

steps_hart : (hart : ℕ) (items : List Item) → steps_in_all (of_hart hart items) ≡ steps_of_body items
steps_hart hart [] = refl
steps_hart hart (i ∷ is) = omega (arith, steps_hart hart is)

steps_copies : (n : ℕ) (xs : List (ℕ × Item)) → steps_in_all (copies n xs) ≤ n * (1 + steps_in_all xs)
steps_copies zero xs = omega arith
steps_copies (suc n) xs = grind (arith, steps_append xs (copies n xs), steps_copies n xs)

no_steps : (i : Item) → Kind i → steps_of i ≤ 0 → ⊥
no_steps i (a_leaf line wishes) le = omega (arith, le, leaf_steps line wishes)
no_steps i (a_fault line causes) le = omega (arith, le, fault_steps line causes)
no_steps i (a_seq body) le = omega (arith, le, seq_steps body)
no_steps i (a_repeat times body) le = omega (arith, le, repeat_steps times body)
no_steps i (a_choice line ways) le = omega (arith, le, choose_steps line ways)
no_steps i (a_label name) le = omega (arith, le, label_steps name)

-- ---- alternatives

some_kept : {A : Type 0} (n : ℕ) (x : A) (xs : List A) → 0 < length (cyclically n (x ∷ xs))
some_kept zero x xs = omega (arith, length-append (x ∷ xs) [])
some_kept (suc n) x xs = omega (arith, length-append (drop n xs) (x ∷ take n xs))

some_way : {A : Type 0} (pick : ℕ) (ws : List (ℕ × A)) → 0 < weight_of ws → 0 < length (cyclically pick (numbered 0 ws))
some_way pick [] some = absurd (omega (arith, some))
some_way pick (w ∷ ws) some = some_kept pick (0, w.1) (numbered 1 ws)

module _ {W : Type 0} (can : W → ℕ → Item → Type 0) (rules : Rules W) (turns : ℕ) (still : StillAllows can rules) (some : HasSomeAnswer can rules) where
  -- ---- outcomes

  -- with so many leaf turns made before; a dead walk has made more
  abbrev Moves : ℕ → Outcome W → Type 0
  Moves n (Finished whole t) = (n ≤ t.turns) × (t.turns ≤ turns)
  Moves n (Dead t) = (n < t.turns) × (t.turns ≤ turns)
  Moves n (GaveUp t) = (n ≤ t.turns) × (t.turns ≡ turns)

  abbrev Stays : ℕ → Outcome W → Type 0
  Stays n (Finished whole t) = (n ≤ t.turns) × (t.turns ≤ turns)
  Stays n (Dead t) = (n ≤ t.turns) × (t.turns ≤ turns)
  Stays n (GaveUp t) = (n ≤ t.turns) × (t.turns ≡ turns)

  moves_less : (n m : ℕ) (o : Outcome W) → n ≤ m → Moves m o → Moves n o
  moves_less n m (Finished whole t) le h = (omega (arith, le, h.0), h.1)
  moves_less n m (Dead t) le h = (omega (arith, le, h.0), h.1)
  moves_less n m (GaveUp t) le h = (omega (arith, le, h.0), h.1)

  moves_stay : (n m : ℕ) (o : Outcome W) → n < m → Stays m o → Moves n o
  moves_stay n m (Finished whole t) lt h = (omega (arith, lt, h.0), h.1)
  moves_stay n m (Dead t) lt h = (omega (arith, lt, h.0), h.1)
  moves_stay n m (GaveUp t) lt h = (omega (arith, lt, h.0), h.1)

  stays_moved : (n : ℕ) (o : Outcome W) → Moves n o → Stays n o
  stays_moved n (Finished whole t) h = h
  stays_moved n (Dead t) h = (omega (arith, h.0), h.1)
  stays_moved n (GaveUp t) h = h

  -- one of these outcomes comes, with so many leaf turns made before
  abbrev Ends : (Outcome W → Type 0) → ℕ → Type 0
  Ends outcomes n = (o : Outcome W) × outcomes o × Moves n o

  abbrev Forward : List (ℕ × Item) → Type 0
  Forward todo = (whole : W) (t : Tally) → AreReady (can whole) todo → t.turns ≤ turns → Ends (Walks rules turns todo whole t) t.turns

  -- ---- a leaf before what goes forward

  module _ (hart line : ℕ) (item : Item) (todo : List (ℕ × Item)) (is : IsLeaf item line) (on : Forward todo) (whole : W) (t : Tally) (ready : AreReady (can whole) ((hart, item) ∷ todo)) where
    allowed : can whole hart item
    allowed = first_leaf (can whole) hart line item todo is ready

    answer_ends : t.turns < turns → (a : Turned W) → rules.turn hart item (words 16 t.draws) whole a → Ends (Walks rules turns ((hart, item) ∷ todo) whole t) t.turns
    answer_ends lt (Taken next) gives =
        let r = on next (turn_made t) (ready_still W can whole next (still.turn hart line item t.draws whole next is allowed gives) todo ready.1) (omega (arith, lt)) in
        (r.0, taken is lt gives r.1, moves_less t.turns (t.turns + 1) r.0 (omega arith) r.2)
    answer_ends lt NoneFits gives = (Dead (nothing_fitted line t), unfit is lt gives, (omega arith, omega (arith, lt)))
    answer_ends lt Spent gives = (Dead (was_spent line t), too_large is lt gives, (omega arith, omega (arith, lt)))

    leaf_ends : t.turns ≤ turns → Ends (Walks rules turns ((hart, item) ∷ todo) whole t) t.turns
    leaf_ends le =
        elim (near_or_far t.turns turns) [
          | inl lt ↦ let a = some hart line item t.draws whole is allowed in answer_ends lt a.0 a.1
          | inr over ↦ (GaveUp t, gives_up is over, (omega arith, omega (arith, le, over)))
        ]

  -- ---- alternatives before what goes forward

  module _ (hart : ℕ) (todo : List (ℕ × Item)) (whole : W) (ready : AreReady (can whole) todo) where
    one_then : (way : ℕ × Vec Item Global) (ways : List (ℕ × Vec Item Global)) (t : Tally) (o : Outcome W) → Walks rules turns (of_hart hart way.1.items ++ todo) (rules.way way.0 whole) t o → Moves t.turns o
        → ((u : Tally) → u.turns ≤ turns → (p : Outcome W) × Tries rules turns hart ways todo whole u p × Stays u.turns p) → Ends (Tries rules turns hart (way ∷ ways) todo whole t) t.turns
    one_then way ways t (Finished end u) walks h on = (Finished end u, leads walks, h)
    one_then way ways t (GaveUp u) walks h on = (GaveUp u, stops walks, h)
    one_then way ways t (Dead u) walks h on = let r = on u h.1 in (r.0, goes_on walks r.1, moves_stay t.turns u.turns r.0 h.0 r.2)

    module _ (n : ℕ) (on : (body : Vec Item Global) → all_true (map is_fit body.items) ≡ true → steps_of_body body.items ≤ n → Forward (of_hart hart body.items ++ todo)) where
      abbrev IsGood : Vec Item Global → Type 0
      IsGood body = (all_true (map is_fit body.items) ≡ true) × (steps_of_body body.items ≤ n) × AreAllowed (can whole) hart (parts_of_body body.items)

      way_ends : (way : ℕ × Vec Item Global) → IsGood way.1 → (t : Tally) → t.turns ≤ turns → Ends (Walks rules turns (of_hart hart way.1.items ++ todo) (rules.way way.0 whole) t) t.turns
      way_ends way good t le =
          on way.1 good.0 good.1 (rules.way way.0 whole) t (ready_still W can whole (rules.way way.0 whole) (still.way way.0 whole) (of_hart hart way.1.items ++ todo) (body_before (can whole) hart way.1 todo good.2 ready)) le

      tries_stay : (ways : List (ℕ × Vec Item Global)) → Each IsGood ways → (t : Tally) → t.turns ≤ turns → (o : Outcome W) × Tries rules turns hart ways todo whole t o × Stays t.turns o
      tries_stay [] each t le = (Dead t, none_left, (omega arith, le))
      tries_stay (w ∷ ws) each t le =
          let first = way_ends w each.0 t le in
          let r = one_then w ws t first.0 first.1 first.2 (λ u h. tries_stay ws each.1 u h) in
          (r.0, r.1, stays_moved t.turns r.0 r.2)

      tries_end : (ways : List (ℕ × Vec Item Global)) → 0 < length ways → Each IsGood ways → (t : Tally) → t.turns ≤ turns → Ends (Tries rules turns hart ways todo whole t) t.turns
      tries_end [] any each t le = absurd (omega (arith, any))
      tries_end (w ∷ ws) any each t le =
          let first = way_ends w each.0 t le in
          one_then w ws t first.0 first.1 first.2 (λ u h. tries_stay ws each.1 u h)

      all_good : (ways : List (ℕ × Vec Item Global)) → are_ways_fit ways ≡ true → longest_steps ways ≤ n → Each (λ body. AreAllowed (can whole) hart (parts_of_body body.items)) ways → Each IsGood ways
      all_good [] fit le each = tt
      all_good (w ∷ ws) fit le each =
          let b = both_true (all_true (map is_fit w.1.items)) (are_ways_fit ws) fit in
          ((b.0, omega (arith, le), each.0), all_good ws b.1 (omega (arith, le)) each.1)

  -- ---- what is left

  by_kind : (n hart : ℕ) (i : Item) (todo : List (ℕ × Item)) → steps_of i + steps_in_all todo ≤ suc n → (is_fit i ≡ true) × AreFit todo → Kind i
      → ((ys : List (ℕ × Item)) → steps_in_all ys ≤ n → AreFit ys → Forward ys) → Forward ((hart, i) ∷ todo)
  by_kind n hart i todo le fit (a_leaf line wishes) on = leaf_ends hart line i todo (leaf line wishes) (on todo (omega (arith, le, leaf_steps line wishes)) fit.1)
  by_kind n hart i todo le fit (a_fault line causes) on = leaf_ends hart line i todo (fault line causes) (on todo (omega (arith, le, fault_steps line causes)) fit.1)
  by_kind n hart i todo le fit (a_label name) on = λ whole t ready h.
      let still_ready = ready_still W can whole (rules.label hart name whole) (still.label hart name whole (first_label (can whole) hart name todo ready)) todo ready.1 in
      let r = on todo (omega (arith, le, label_steps name)) fit.1 (rules.label hart name whole) t still_ready h in
      (r.0, label name r.1, r.2)
  by_kind n hart i todo le fit (a_seq body) on = λ whole t ready h.
      let r = on (of_hart hart body.items ++ todo) (omega (arith, le, seq_steps body, steps_append (of_hart hart body.items) todo, steps_hart hart body.items))
      (fit_append (of_hart hart body.items) todo (fit_body hart body.items (sym (seq_fit body) ∙ fit.0)) fit.1) whole t (first_seq (can whole) hart body todo ready) h in
      (r.0, seq body r.1, r.2)
  by_kind n hart i todo le fit (a_repeat times body) on = λ whole t ready h.
      let most : steps_in_all (copies times (of_hart hart body.items)) ≤ times * (1 + steps_of_body body.items) =
      subst (λ (k : ℕ). steps_in_all (copies times (of_hart hart body.items)) ≤ times * (1 + k)) (steps_hart hart body.items) (steps_copies times (of_hart hart body.items)) in
      let r = on (copies times (of_hart hart body.items) ++ todo) (omega (arith, le, repeat_steps times body, steps_append (copies times (of_hart hart body.items)) todo, most))
      (fit_append (copies times (of_hart hart body.items)) todo (fit_copies times (of_hart hart body.items) (fit_body hart body.items (sym (repeat_fit times body) ∙ fit.0))) fit.1) whole t (first_repeat (can whole) hart times body todo ready) h in
      (r.0, rep times body r.1, r.2)
  by_kind n hart i todo le fit (a_choice line ways) on = λ whole t ready h.
      let f = both_true (can_pick ways.items) (are_ways_fit ways.items) (sym (choose_fit line ways) ∙ fit.0) in
      let most : ℕ = longest_steps ways.items in
      let same : most ≤ most = omega arith in
      let inner : (body : Vec Item Global) → all_true (map is_fit body.items) ≡ true → steps_of_body body.items ≤ most → Forward (of_hart hart body.items ++ todo) = λ body fits few.
      on (of_hart hart body.items ++ todo) (omega (arith, le, few, choose_steps line ways, steps_append (of_hart hart body.items) todo, steps_hart hart body.items)) (fit_append (of_hart hart body.items) todo (fit_body hart body.items fits) fit.1) in
      let draw : ℕ = (pcg32 t.draws).0 in
      let good = all_good hart todo whole ready.1 most inner ways.items f.1 same (first_choose (can whole) hart line ways todo ready) in
      let r = tries_end hart todo whole ready.1 most inner (in_turn ways.items draw) (some_way (picked ways.items draw) ways.items (has_weight ways.items f.0)) (each_in_turn (IsGood hart todo whole ready.1 most inner) ways.items draw good) (draw_made t) h in
      (r.0, choose line ways r.1, r.2)

  forward : (n : ℕ) (todo : List (ℕ × Item)) → steps_in_all todo ≤ n → AreFit todo → Forward todo
  forward n [] le fit = λ whole t ready h. (Finished whole t, finished, (omega arith, h))
  forward zero (x ∷ todo) le fit = absurd (no_steps x.1 (kind x.1) (omega (arith, le)))
  forward (suc n) (x ∷ todo) le fit = by_kind n x.0 x.1 todo le fit (kind x.1) (λ ys h f. forward n ys h f)

  -- ---- results

  module _ (walks : Tally → Outcome W → Type 0) (on : (t : Tally) → t.turns ≤ turns → Ends (walks t) t.turns) where
    results : (k : ℕ) (n : ℕ) (o : Outcome W) → turns ≤ n + k → Moves n o → (r : SearchResult W) × ComesTo walks o r
    results k n (Finished whole t) le h = (Done whole t, done)
    results k n (GaveUp t) le h = (NoTest t, gave_up)
    results zero n (Dead t) le h = absurd (omega (arith, le, h.0, h.1))
    results (suc k) n (Dead t) le h =
        let next = on t h.1 in
        let r = results k t.turns next.0 (omega (arith, le, h.0)) next.2 in
        (r.0, again next.1 r.1)

pub some_result : {W : Type 0} (can : W → ℕ → Item → Type 0) (rules : Rules W) → HasSomeResult can rules
some_result {W = W} can rules still some harts seed turns first fit ready =
    let same : steps_in_all (all_items 0 harts) ≤ steps_in_all (all_items 0 harts) = omega arith in
    let on : (t : Tally) → t.turns ≤ turns → Ends can rules turns still some (WalksFrom rules turns harts first t) t.turns = λ t h. forward can rules turns still some (steps_in_all (all_items 0 harts)) (all_items 0 harts) same fit first t ready h in
    let begun = on (fresh seed) (omega arith) in
    let r = results can rules turns still some (WalksFrom rules turns harts first) on turns 0 begun.0 (omega arith) begun.2 in
    (r.0, (begun.0, begun.1, r.1))
