-- The laws of the search.
use Rattle.std.proofs.Common.{◌≡◌, ℕ, zero, suc, ◌+◌, ◌≤◌, ◌%◌, Bool, true, false, nat_lt, if◌then◌else◌, List, [], ◌∷◌, ◌++◌, refl, sym, ap, ◌∙◌, subst, zero-add, arith}
use Rattle.std.specs.Prelude.{Vec}
use Rattle.std.specs.Global.{Global}
use Rattle.tpl_ast.specs.declared.template.Item.{Item}
use Rattle.rand_pcg.specs.Lcg.{Lcg}
use Rattle.rand_pcg.specs.Pcg.{pcg32}
use Rattle.gen_search.specs.declared.draws.Tally.{Tally}
use Rattle.gen_search.specs.Draws.{words, behind}
use Rattle.gen_search.specs.Search.{Rules, Outcome, Finished, Dead, GaveUp, Walks, finished, gives_up, taken, unfit, too_large, label, seq, rep, choose, Tries, none_left, leads, stops, goes_on, SearchResult, ComesTo, done, gave_up, again, cyclically, draw_made, in_turn, of_hart, OrElse, is_dead, is_finished, is_given_up}
use Rattle.gen_search.specs.Laws.{DrawsAreInOrder, IsBounded, OneWayIsTaken, ResultsAreBounded, TriesGoOn}
use Rattle.gen_search.proofs.Opened.{choose_opened}

-- ---- at most so many leaf turns

module _ {W : Type 0} (rules : Rules W) (turns : ℕ) where
  abbrev Within : Outcome W → Type 0
  Within (Finished whole t) = t.turns ≤ turns
  Within (Dead t) = t.turns ≤ turns
  Within (GaveUp t) = t.turns ≡ turns

  mutual
    walks_within : {todo : List (ℕ × Item)} {whole : W} {t : Tally} {o : Outcome W} → Walks rules turns todo whole t o → t.turns ≤ turns → Within o
    walks_within finished le = le
    walks_within (gives_up is over) le = omega (arith, le, over)
    walks_within (taken is lt gives walks) le = walks_within walks (omega (arith, lt))
    walks_within (unfit is lt gives) le = omega (arith, lt)
    walks_within (too_large is lt gives) le = omega (arith, lt)
    walks_within (label name walks) le = walks_within walks le
    walks_within (seq body walks) le = walks_within walks le
    walks_within (rep times body walks) le = walks_within walks le
    walks_within (choose line ways tries) le = tries_within tries le

    tries_within : {hart : ℕ} {ways : List (ℕ × Vec Item Global)} {todo : List (ℕ × Item)} {whole : W} {t : Tally} {o : Outcome W} → Tries rules turns hart ways todo whole t o → t.turns ≤ turns → Within o
    tries_within none_left le = le
    tries_within (leads walks) le = walks_within walks le
    tries_within (stops walks) le = walks_within walks le
    tries_within (goes_on walks tries) le = tries_within tries (walks_within walks le)

  comes_within : {todo : List (ℕ × Item)} {first : W} {o : Outcome W} {r : SearchResult W} → ComesTo (Walks rules turns todo first) o r → Within o → IsBounded turns r
  comes_within done le = le
  comes_within gave_up le = le
  comes_within (again walks comes) le = comes_within comes (walks_within walks le)

pub bounded : {W : Type 0} (rules : Rules W) → ResultsAreBounded rules
bounded rules harts seed turns first r searches = comes_within rules turns searches.2 (walks_within rules turns searches.1 (omega arith))

-- ---- choices

one_cyclically : {A : Type 0} (b : Bool) (x : A) → cyclically (if b then 0 else 1 + 0) (x ∷ []) ≡ x ∷ []
one_cyclically true x = refl
one_cyclically false x = refl

one_in_turn : {A : Type 0} (weight draw : ℕ) (x : A) → in_turn ((weight, x) ∷ []) draw ≡ (0, x) ∷ []
one_in_turn weight draw x = one_cyclically (nat_lt (draw % (weight + 0)) weight) (0, x)

module _ {W : Type 0} (rules : Rules W) (turns hart : ℕ) where
  -- one alternative alone
  one_tried : (way : ℕ × Vec Item Global) (todo : List (ℕ × Item)) (whole : W) (t : Tally) (o : Outcome W) → Walks rules turns (of_hart hart way.1.items ++ todo) (rules.way way.0 whole) t o → Tries rules turns hart (way ∷ []) todo whole t o
  one_tried way todo whole t (Finished end u) walks = leads walks
  one_tried way todo whole t (Dead u) walks = goes_on walks none_left
  one_tried way todo whole t (GaveUp u) walks = stops walks

  one_walked : {way : ℕ × Vec Item Global} {todo : List (ℕ × Item)} {whole : W} {t : Tally} {o : Outcome W} → Tries rules turns hart (way ∷ []) todo whole t o → Walks rules turns (of_hart hart way.1.items ++ todo) (rules.way way.0 whole) t o
  one_walked (leads walks) = walks
  one_walked (stops walks) = walks
  one_walked (goes_on walks none_left) = walks

  -- alternatives and more others
  split_tries : (xs ys : List (ℕ × Vec Item Global)) (todo : List (ℕ × Item)) (whole : W) {t : Tally} {o : Outcome W} → Tries rules turns hart (xs ++ ys) todo whole t o → OrElse (Tries rules turns hart xs todo whole t) (Tries rules turns hart ys todo whole) o
  split_tries [] ys todo whole tries = is_dead none_left tries
  split_tries (x ∷ xs) ys todo whole (leads walks) = is_finished (leads walks)
  split_tries (x ∷ xs) ys todo whole (stops walks) = is_given_up (stops walks)
  split_tries (x ∷ xs) ys todo whole (goes_on walks tries) = behind_dead walks (split_tries xs ys todo whole tries)
    where
      behind_dead : {t u : Tally} {o : Outcome W} → Walks rules turns (of_hart hart x.1.items ++ todo) (rules.way x.0 whole) t (Dead u) → OrElse (Tries rules turns hart xs todo whole u) (Tries rules turns hart ys todo whole) o
          → OrElse (Tries rules turns hart (x ∷ xs) todo whole t) (Tries rules turns hart ys todo whole) o
      behind_dead walks (is_finished tries) = is_finished (goes_on walks tries)
      behind_dead walks (is_given_up tries) = is_given_up (goes_on walks tries)
      behind_dead walks (is_dead tries more) = is_dead (goes_on walks tries) more

  ends_before : {xs : List (ℕ × Vec Item Global)} (ys : List (ℕ × Vec Item Global)) {todo : List (ℕ × Item)} {whole end : W} {t u : Tally} → Tries rules turns hart xs todo whole t (Finished end u) → Tries rules turns hart (xs ++ ys) todo whole t (Finished end u)
  ends_before ys (leads walks) = leads walks
  ends_before ys (goes_on walks tries) = goes_on walks (ends_before ys tries)

  stops_before : {xs : List (ℕ × Vec Item Global)} (ys : List (ℕ × Vec Item Global)) {todo : List (ℕ × Item)} {whole : W} {t u : Tally} → Tries rules turns hart xs todo whole t (GaveUp u) → Tries rules turns hart (xs ++ ys) todo whole t (GaveUp u)
  stops_before ys (stops walks) = stops walks
  stops_before ys (goes_on walks tries) = goes_on walks (stops_before ys tries)

  dead_before : {xs : List (ℕ × Vec Item Global)} (ys : List (ℕ × Vec Item Global)) {todo : List (ℕ × Item)} {whole : W} {t u : Tally} {o : Outcome W} → Tries rules turns hart xs todo whole t (Dead u) → Tries rules turns hart ys todo whole u o → Tries rules turns hart (xs ++ ys) todo whole t o
  dead_before ys none_left more = more
  dead_before ys (goes_on walks tries) more = goes_on walks (dead_before ys tries more)

  joined_tries : (xs ys : List (ℕ × Vec Item Global)) (todo : List (ℕ × Item)) (whole : W) (t : Tally) {o : Outcome W} → OrElse (Tries rules turns hart xs todo whole t) (Tries rules turns hart ys todo whole) o → Tries rules turns hart (xs ++ ys) todo whole t o
  joined_tries xs ys todo whole t (is_finished tries) = ends_before ys tries
  joined_tries xs ys todo whole t (is_given_up tries) = stops_before ys tries
  joined_tries xs ys todo whole t (is_dead tries more) = dead_before ys tries more

pub one_way : {W : Type 0} (rules : Rules W) → OneWayIsTaken rules
one_way rules turns hart line weight body ways todo whole t o is =
    let same : in_turn ways.items (pcg32 t.draws).0 ≡ (0, body) ∷ [] = ap (λ (ws : List (ℕ × Vec Item Global)). in_turn ws (pcg32 t.draws).0) is ∙ one_in_turn weight (pcg32 t.draws).0 body in (
      λ walks. one_walked rules turns hart (subst (λ (ws : List (ℕ × Vec Item Global)). Tries rules turns hart ws todo whole (draw_made t) o) same (choose_opened rules turns hart todo whole t o line ways walks)),
      λ walks. choose line ways (subst (λ (ws : List (ℕ × Vec Item Global)). Tries rules turns hart ws todo whole (draw_made t) o) (sym same) (one_tried rules turns hart (0, body) todo whole (draw_made t) o walks)),
    )

pub tries_go_on : {W : Type 0} (rules : Rules W) → TriesGoOn rules
tries_go_on rules turns hart xs ys todo whole t o = (split_tries rules turns hart xs ys todo whole, joined_tries rules turns hart xs ys todo whole t)

-- ---- draws

taken_on : (n m : ℕ) (g : Lcg) → words (n + m) g ≡ words n g ++ words m (behind n g)
unfolding words behind
taken_on zero m g = ap (λ (k : ℕ). words k g) (zero-add m)
taken_on (suc n) m g =
    let e : suc n + m ≡ suc (n + m) = omega arith in
    ap (λ (k : ℕ). words k g) e ∙ ap (λ (ws : List ℕ). (pcg32 g).0 ∷ ws) (taken_on n m (pcg32 g).1)

left_on : (n m : ℕ) (g : Lcg) → behind (n + m) g ≡ behind m (behind n g)
unfolding behind
left_on zero m g = ap (λ (k : ℕ). behind k g) (zero-add m)
left_on (suc n) m g =
    let e : suc n + m ≡ suc (n + m) = omega arith in
    ap (λ (k : ℕ). behind k g) e ∙ left_on n m (pcg32 g).1

pub in_order : DrawsAreInOrder
in_order n m g = record { taken = taken_on n m g; left = left_on n m g }
