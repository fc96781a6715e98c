-- Where each leaf turn that can be taken has one answer, a search has one result.
use Rattle.std.proofs.Common.{◌≡◌, ℕ, ◌<◌, ◌≤◌, List, ◌++◌, refl, sym, subst, arith}
use Rattle.std.specs.Prelude.{Vec}
use Rattle.std.specs.Global.{Global}
use Rattle.rand_pcg.specs.Pcg.{pcg32}
use Rattle.tpl_ast.specs.declared.template.Item.{Item}
use Rattle.tpl_ast.specs.declared.template.Item.TheVariants as variants
use Rattle.gen_search.specs.declared.draws.Tally.{Tally}
use Rattle.gen_search.specs.Draws.{words}
use Rattle.gen_search.specs.Search.{IsLeaf, Rules, Turned, Taken, NoneFits, Spent, Outcome, Finished, Dead, GaveUp, Walks, finished, gives_up, taken, unfit, too_large, label, seq, rep, choose, Tries, none_left, leads, stops, goes_on, SearchResult, ComesTo, done, gave_up, again, all_items, fresh, nothing_fitted, of_hart, turn_made, was_spent}
use Rattle.gen_search.specs.Laws.{HasOneAnswer, HasOneResult, StillAllows}
use Rattle.gen_search.specs.Ready.{AreAllowed, AreReady, parts_of_body}
use Rattle.gen_search.proofs.Each.{Each, each_in_turn}
use Rattle.gen_search.proofs.Opened.{LeafWalks, choose_opened, label_opened, large, leaf_opened, none, opened, over, repeat_opened, seq_opened, took}
use Rattle.gen_search.proofs.Ready.{body_before, first_choose, first_label, first_leaf, first_repeat, first_seq, ready_still}

-- ---- outcomes and answers that are not the same

dead_same : {W : Type 0} (t u : Tally) → ◌≡◌ {A = Outcome W} (Dead t) (Dead u) → t ≡ u
dead_same t u h = cc

finished_dead : {W A : Type 0} {whole : W} {t u : Tally} → Finished whole t ≡ Dead u → A
finished_dead {W = W} {whole = whole} {t = t} {u = u} h = absurd (differ h)
  where
    differ : Finished whole t ≡ Dead u → ⊥
    differ h = cc

gave_up_dead : {W A : Type 0} {t u : Tally} → ◌≡◌ {A = Outcome W} (GaveUp t) (Dead u) → A
gave_up_dead {W = W} {t = t} {u = u} h = absurd (differ h)
  where
    differ : ◌≡◌ {A = Outcome W} (GaveUp t) (Dead u) → ⊥
    differ h = cc

same_taken : {W : Type 0} (a b : W) → Taken a ≡ Taken b → a ≡ b
same_taken a b h = cc

taken_none : {W A : Type 0} (a : W) → Taken a ≡ NoneFits → A
taken_none {W = W} a h = absurd (differ h)
  where
    differ : Taken a ≡ NoneFits → ⊥
    differ h = cc

taken_spent : {W A : Type 0} (a : W) → Taken a ≡ Spent → A
taken_spent {W = W} a h = absurd (differ h)
  where
    differ : Taken a ≡ Spent → ⊥
    differ h = cc

none_spent : {W A : Type 0} → ◌≡◌ {A = Turned W} NoneFits Spent → A
none_spent {W = W} h = absurd (differ h)
  where
    differ : ◌≡◌ {A = Turned W} NoneFits Spent → ⊥
    differ h = cc

module _ {W : Type 0} (can : W → ℕ → Item → Type 0) (rules : Rules W) (turns : ℕ) (still : StillAllows can rules) (one : HasOneAnswer can rules) where
  abbrev CanTry : W → ℕ → Vec Item Global → Type 0
  CanTry whole hart body = AreAllowed (can whole) hart (parts_of_body body.items)

  -- ---- leaves

  module _ (hart line : ℕ) (item : Item) (todo : List (ℕ × Item)) (whole : W) (t : Tally) where
    over_once : {p : Outcome W} → turns ≤ t.turns → LeafWalks rules turns hart line item todo whole t p → GaveUp t ≡ p
    over_once le (over le2) = refl
    over_once le (took lt gives walks) = absurd (omega (arith, le, lt))
    over_once le (none lt gives) = absurd (omega (arith, le, lt))
    over_once le (large lt gives) = absurd (omega (arith, le, lt))

    module _ (is : IsLeaf item line) (allowed : can whole hart item) (lt : t.turns < turns) where
      took_once : {p : Outcome W} (next : W) → rules.turn hart item (words 16 t.draws) whole (Taken next) → LeafWalks rules turns hart line item todo whole t p → Walks rules turns todo next (turn_made t) p
      took_once next gives (over le) = absurd (omega (arith, le, lt))
      took_once {p = p} next gives (took {next = other} lt2 gives2 walks) =
          subst (λ (w : W). Walks rules turns todo w (turn_made t) p) (same_taken other next (one hart line item t.draws whole (Taken other) (Taken next) is allowed gives2 gives)) walks
      took_once next gives (none lt2 gives2) = taken_none next (one hart line item t.draws whole (Taken next) NoneFits is allowed gives gives2)
      took_once next gives (large lt2 gives2) = taken_spent next (one hart line item t.draws whole (Taken next) Spent is allowed gives gives2)

      none_once : {p : Outcome W} → rules.turn hart item (words 16 t.draws) whole NoneFits → LeafWalks rules turns hart line item todo whole t p → Dead (nothing_fitted line t) ≡ p
      none_once gives (over le) = absurd (omega (arith, le, lt))
      none_once gives (took {next = other} lt2 gives2 walks) = taken_none other (one hart line item t.draws whole (Taken other) NoneFits is allowed gives2 gives)
      none_once gives (none lt2 gives2) = refl
      none_once gives (large lt2 gives2) = none_spent (one hart line item t.draws whole NoneFits Spent is allowed gives gives2)

      large_once : {p : Outcome W} → rules.turn hart item (words 16 t.draws) whole Spent → LeafWalks rules turns hart line item todo whole t p → Dead (was_spent line t) ≡ p
      large_once gives (over le) = absurd (omega (arith, le, lt))
      large_once gives (took {next = other} lt2 gives2 walks) = taken_spent other (one hart line item t.draws whole (Taken other) Spent is allowed gives2 gives)
      large_once gives (none lt2 gives2) = none_spent (one hart line item t.draws whole NoneFits Spent is allowed gives2 gives)
      large_once gives (large lt2 gives2) = refl

  -- ---- walks

  way_ready : (hart : ℕ) (way : ℕ × Vec Item Global) (todo : List (ℕ × Item)) (whole : W) → CanTry whole hart way.1 → AreReady (can whole) todo → AreReady (can (rules.way way.0 whole)) (of_hart hart way.1.items ++ todo)
  way_ready hart way todo whole allowed ready = ready_still W can whole (rules.way way.0 whole) (still.way way.0 whole) (of_hart hart way.1.items ++ todo) (body_before (can whole) hart way.1 todo allowed ready)

  mutual
    walks_once : {todo : List (ℕ × Item)} {whole : W} {t : Tally} {o p : Outcome W} → Walks rules turns todo whole t o → AreReady (can whole) todo → Walks rules turns todo whole t p → o ≡ p
    walks_once finished ready other = sym (opened rules turns other)
    walks_once {p = p} (gives_up {hart = hart} {line = line} {item = item} {todo = todo} {whole = whole} {t = t} is le) ready other = over_once hart line item todo whole t le (leaf_opened rules turns hart todo whole t p is other)
    walks_once {p = p} (taken {hart = hart} {line = line} {item = item} {todo = todo} {whole = whole} {next = next} {t = t} is lt gives walks) ready other =
        let allowed : can whole hart item = first_leaf (can whole) hart line item todo is ready in
        walks_once walks (ready_still W can whole next (still.turn hart line item t.draws whole next is allowed gives) todo ready.1) (took_once hart line item todo whole t is allowed lt next gives (leaf_opened rules turns hart todo whole t p is other))
    walks_once {p = p} (unfit {hart = hart} {line = line} {item = item} {todo = todo} {whole = whole} {t = t} is lt gives) ready other =
        none_once hart line item todo whole t is (first_leaf (can whole) hart line item todo is ready) lt gives (leaf_opened rules turns hart todo whole t p is other)
    walks_once {p = p} (too_large {hart = hart} {line = line} {item = item} {todo = todo} {whole = whole} {t = t} is lt gives) ready other =
        large_once hart line item todo whole t is (first_leaf (can whole) hart line item todo is ready) lt gives (leaf_opened rules turns hart todo whole t p is other)
    walks_once {p = p} (label {hart = hart} name {todo = todo} {whole = whole} {t = t} walks) ready other =
        let allowed : can whole hart (variants.Label name) = first_label (can whole) hart name todo ready in
        walks_once walks (ready_still W can whole (rules.label hart name whole) (still.label hart name whole allowed) todo ready.1) (label_opened rules turns hart todo whole t p name other)
    walks_once {p = p} (seq {hart = hart} body {todo = todo} {whole = whole} {t = t} walks) ready other =
        walks_once walks (first_seq (can whole) hart body todo ready) (seq_opened rules turns hart todo whole t p body other)
    walks_once {p = p} (rep {hart = hart} times body {todo = todo} {whole = whole} {t = t} walks) ready other =
        walks_once walks (first_repeat (can whole) hart times body todo ready) (repeat_opened rules turns hart todo whole t p times body other)
    walks_once {p = p} (choose {hart = hart} line ways {todo = todo} {whole = whole} {t = t} tries) ready other =
        tries_once tries (each_in_turn (CanTry whole hart) ways.items (pcg32 t.draws).0 (first_choose (can whole) hart line ways todo ready)) ready.1 (choose_opened rules turns hart todo whole t p line ways other)

    tries_once : {hart : ℕ} {ways : List (ℕ × Vec Item Global)} {todo : List (ℕ × Item)} {whole : W} {t : Tally} {o p : Outcome W} → Tries rules turns hart ways todo whole t o
        → Each (CanTry whole hart) ways → AreReady (can whole) todo → Tries rules turns hart ways todo whole t p → o ≡ p
    tries_once none_left each ready none_left = refl
    tries_once (leads {hart = hart} {way = way} {todo = todo} {whole = whole} walks) each ready (leads others) = walks_once walks (way_ready hart way todo whole each.0 ready) others
    tries_once (leads {hart = hart} {way = way} {todo = todo} {whole = whole} walks) each ready (stops others) = walks_once walks (way_ready hart way todo whole each.0 ready) others
    tries_once (leads {hart = hart} {way = way} {todo = todo} {whole = whole} walks) each ready (goes_on others tries) = finished_dead (walks_once walks (way_ready hart way todo whole each.0 ready) others)
    tries_once (stops {hart = hart} {way = way} {todo = todo} {whole = whole} walks) each ready (leads others) = walks_once walks (way_ready hart way todo whole each.0 ready) others
    tries_once (stops {hart = hart} {way = way} {todo = todo} {whole = whole} walks) each ready (stops others) = walks_once walks (way_ready hart way todo whole each.0 ready) others
    tries_once (stops {hart = hart} {way = way} {todo = todo} {whole = whole} walks) each ready (goes_on others tries) = gave_up_dead (walks_once walks (way_ready hart way todo whole each.0 ready) others)
    tries_once (goes_on {hart = hart} {way = way} {todo = todo} {whole = whole} walks tries) each ready (leads others) = finished_dead (sym (walks_once walks (way_ready hart way todo whole each.0 ready) others))
    tries_once (goes_on {hart = hart} {way = way} {todo = todo} {whole = whole} walks tries) each ready (stops others) = gave_up_dead (sym (walks_once walks (way_ready hart way todo whole each.0 ready) others))
    tries_once {p = p} (goes_on {hart = hart} {way = way} {ways = ways} {todo = todo} {whole = whole} {u = u} walks tries) each ready (goes_on {u = v} others more) =
        tries_once tries each.1 ready (subst (λ (x : Tally). Tries rules turns hart ways todo whole x p) (sym (dead_same u v (walks_once walks (way_ready hart way todo whole each.0 ready) others))) more)

comes_once : {W : Type 0} {walks : Tally → Outcome W → Type 0} → ((t : Tally) (o p : Outcome W) → walks t o → walks t p → o ≡ p) → {o : Outcome W} {r s : SearchResult W} → ComesTo walks o r → ComesTo walks o s → r ≡ s
comes_once once done done = refl
comes_once once gave_up gave_up = refl
comes_once {walks = walks} once {s = s} (again {t = t} {o = o} walk comes) (again {o = p} other further) =
    comes_once once comes (subst (λ (x : Outcome _). ComesTo walks x s) (sym (once t o p walk other)) further)

pub one_result : {W : Type 0} (can : W → ℕ → Item → Type 0) (rules : Rules W) → HasOneResult can rules
one_result {W = W} can rules still one harts seed turns first r s ready (o, walks, comes) (p, others, further) =
    let once : (t : Tally) (a b : Outcome W) → Walks rules turns (all_items 0 harts) first t a → Walks rules turns (all_items 0 harts) first t b → a ≡ b = λ t a b u v. walks_once can rules turns still one u ready v in
    comes_once once comes (subst (λ (x : Outcome W). ComesTo (Walks rules turns (all_items 0 harts) first) x s) (sym (once (fresh seed) o p walks others)) further)
