-- A search of bodies that stand in the same lines, from a whole that takes another's place, comes to the same.
use Rattle.std.proofs.Common.{◌≡◌, ℕ, zero, suc, ◌+◌, ◌-◌, ◌%◌, nat_lt, if◌then◌else◌, List, [], ◌∷◌, ◌++◌, map, take, drop, refl, sym, ap, ◌∙◌, subst}
use Rattle.std.specs.Prelude.{Vec}
use Rattle.std.specs.Global.{Global}
use Rattle.std.proofs.lemmas.List.{drop-map, map-append, take-map}
use Rattle.rand_pcg.specs.Pcg.{pcg32}
use Rattle.tpl_ast.specs.declared.template.HartDecl.{HartDecl}
use Rattle.tpl_ast.specs.declared.template.Item.{Item}
use Rattle.tpl_ast.specs.declared.template.Item.TheViews as views
use Rattle.tpl_ast.specs.declared.template.Item.TheVariants as variants
use Rattle.tpl_ast.specs.Bodies.{BodyLine, lines_of_body, lines_of_item, HartLines, hart_lines}
use Rattle.tpl_ast.specs.Choices.{weight_of}
use Rattle.gen_search.specs.declared.draws.Tally.{Tally}
use Rattle.gen_search.specs.Draws.{words}
use Rattle.gen_search.specs.Search.{Rules, Taken, NoneFits, Spent, Outcome, Finished, Dead, GaveUp, Walks, finished, gives_up, taken, unfit, too_large, label, seq, rep, choose, Tries, none_left, leads, stops, goes_on, SearchResult, ComesTo, done, gave_up, again, all_items, copies, cyclically, in_turn, numbered, of_hart, picked, way_at}
use Rattle.gen_search.specs.Moved.{IsMove, SearchesAreMoved, result_by}
use Rattle.gen_search.proofs.SameLines.{body_told, choose_alike, label_alike, leaf_alike, repeat_alike, seq_alike, told, told_ways}

-- ---- lists of items

both_told : (xs ys zs ws : List (ℕ × Item)) → told xs ≡ told ys → told zs ≡ told ws → told (xs ++ zs) ≡ told (ys ++ ws)
both_told xs ys zs ws first second = map-append _ xs zs ∙ (λ k. first k ++ second k) ∙ sym (map-append _ ys ws)

copies_told : (n : ℕ) (xs ys : List (ℕ × Item)) → told xs ≡ told ys → told (copies n xs) ≡ told (copies n ys)
copies_told zero xs ys same = refl
copies_told (suc n) xs ys same = both_told xs ys (copies n xs) (copies n ys) same (copies_told n xs ys same)

harts_told : (n : ℕ) (harts others : List HartDecl) → map hart_lines harts ≡ map hart_lines others → told (all_items n harts) ≡ told (all_items n others)
harts_told n [] [] same = refl
harts_told n [] (o ∷ others) same = cc
harts_told n (h ∷ harts) [] same = cc
harts_told n (h ∷ harts) (o ∷ others) same =
    let first : hart_lines h ≡ hart_lines o = cc in
    let rest : map hart_lines harts ≡ map hart_lines others = cc in
    both_told (of_hart n h.body.items) (of_hart n o.body.items) (all_items (n + 1) harts) (all_items (n + 1) others) (body_told n h.body.items o.body.items (ap (λ (l : HartLines). l.body) first)) (harts_told (n + 1) harts others rest)

-- ---- alternatives: what is picked rests on weights alone

module _ {A B : Type 0} (g : A → B) where
  abbrev with_weight : ℕ × A → ℕ × B
  with_weight w = (w.0, g w.1)

  same_weight : (ws : List (ℕ × A)) → weight_of (map with_weight ws) ≡ weight_of ws
  same_weight [] = refl
  same_weight (w ∷ ws) = ap (λ (n : ℕ). w.0 + n) (same_weight ws)

  same_way : (ws : List (ℕ × A)) (n : ℕ) → way_at (map with_weight ws) n ≡ way_at ws n
  same_way [] n = refl
  same_way (w ∷ ws) n = ap (λ (way : ℕ). if nat_lt n w.0 then 0 else 1 + way) (same_way ws (n - w.0))

  same_picked : (ws : List (ℕ × A)) (draw : ℕ) → picked (map with_weight ws) draw ≡ picked ws draw
  same_picked ws draw = same_way ws (draw % weight_of (map with_weight ws)) ∙ ap (λ (n : ℕ). way_at ws (draw % n)) (same_weight ws)

  map_numbered : (n : ℕ) (ws : List (ℕ × A)) → numbered n (map with_weight ws) ≡ map with_weight (numbered n ws)
  map_numbered n [] = refl
  map_numbered n (w ∷ ws) = ap (λ (vs : List (ℕ × B)). (n, g w.1) ∷ vs) (map_numbered (n + 1) ws)

  map_cyclically : (n : ℕ) (ws : List (ℕ × A)) → cyclically n (map with_weight ws) ≡ map with_weight (cyclically n ws)
  map_cyclically n ws = (λ k. drop-map with_weight n ws k ++ take-map with_weight n ws k) ∙ sym (map-append with_weight (drop n ws) (take n ws))

  map_in_turn : (ws : List (ℕ × A)) (draw : ℕ) → in_turn (map with_weight ws) draw ≡ map with_weight (in_turn ws draw)
  map_in_turn ws draw = (λ k. cyclically (same_picked ws draw k) (map_numbered 0 ws k)) ∙ map_cyclically (picked ws draw) (numbered 0 ws)

turns_told : (ws vs : List (ℕ × Vec Item Global)) (draw : ℕ) → told_ways ws ≡ told_ways vs → told_ways (in_turn ws draw) ≡ told_ways (in_turn vs draw)
turns_told ws vs draw same =
    let lines : Vec Item Global → List BodyLine = λ body. lines_of_body body.items in
    sym (map_in_turn lines ws draw) ∙ ap (λ (xs : List (ℕ × List BodyLine)). in_turn xs draw) same ∙ map_in_turn lines vs draw

-- ---- walks

module _ {W : Type 0} (rules : Rules W) (f : W → W) (move : IsMove rules f) (turns : ℕ) where
  abbrev moved_by : Outcome W → Outcome W
  moved_by (Finished whole t) = Finished (f whole) t
  moved_by (Dead t) = Dead t
  moved_by (GaveUp t) = GaveUp t

  -- a walk through what is alike begins with an item of the same lines
  first_alike : (hart : ℕ) (item : Item) (todo others : List (ℕ × Item)) (whole : W) (t : Tally) (o : Outcome W) → told ((hart, item) ∷ todo) ≡ told others
      → ((other : Item) (rest : List (ℕ × Item)) → lines_of_item item ≡ lines_of_item other → told todo ≡ told rest → Walks rules turns ((hart, other) ∷ rest) whole t o) → Walks rules turns others whole t o
  first_alike hart item todo [] whole t o same walks = cc
  first_alike hart item todo (x ∷ xs) whole t o same walks =
      let first : ◌≡◌ {A = ℕ × List BodyLine} (hart, lines_of_item item) (x.0, lines_of_item x.1) = cc in
      let rest : told todo ≡ told xs = cc in
      subst (λ (n : ℕ). Walks rules turns ((n, x.1) ∷ xs) whole t o) (ap (λ (y : ℕ × List BodyLine). y.0) first) (walks x.1 xs (ap (λ (y : ℕ × List BodyLine). y.1) first) rest)

  -- and so do tries of alternatives that are alike
  way_alike : (way : ℕ × Vec Item Global) (ways others : List (ℕ × Vec Item Global)) (hart : ℕ) (todo : List (ℕ × Item)) (whole : W) (t : Tally) (o : Outcome W) → told_ways (way ∷ ways) ≡ told_ways others
      → ((body : Vec Item Global) (rest : List (ℕ × Vec Item Global)) → lines_of_body way.1.items ≡ lines_of_body body.items → told_ways ways ≡ told_ways rest → Tries rules turns hart ((way.0, body) ∷ rest) todo whole t o)
      → Tries rules turns hart others todo whole t o
  way_alike way ways [] hart todo whole t o same tries = cc
  way_alike way ways (v ∷ vs) hart todo whole t o same tries =
      let first : ◌≡◌ {A = ℕ × List BodyLine} (way.0, lines_of_body way.1.items) (v.0, lines_of_body v.1.items) = cc in
      let rest : told_ways ways ≡ told_ways vs = cc in
      subst (λ (n : ℕ). Tries rules turns hart ((n, v.1) ∷ vs) todo whole t o) (ap (λ (y : ℕ × List BodyLine). y.0) first) (tries v.1 vs (ap (λ (y : ℕ × List BodyLine). y.1) first) rest)

  -- a walk that begins with an item, by an equal one
  made_alike : (hart : ℕ) (rest : List (ℕ × Item)) (whole : W) (t : Tally) (o : Outcome W) (other item : Item) → other ≡ item → Walks rules turns ((hart, item) ∷ rest) whole t o → Walks rules turns ((hart, other) ∷ rest) whole t o
  made_alike hart rest whole t o other item is walks = subst (λ (i : Item). Walks rules turns ((hart, i) ∷ rest) whole t o) (sym is) walks

  -- the walk of an alternative is moved as any is, and its number noted as on the whole before
  tried_moved : (hart : ℕ) (way : ℕ × Vec Item Global) (body : Vec Item Global) (todo rest : List (ℕ × Item)) (whole : W) (t : Tally) (o : Outcome W)
      → ((others : List (ℕ × Item)) → told (of_hart hart way.1.items ++ todo) ≡ told others → Walks rules turns others (f (rules.way way.0 whole)) t (moved_by o)) → lines_of_body way.1.items ≡ lines_of_body body.items → told todo ≡ told rest
      → Walks rules turns (of_hart hart body.items ++ rest) (rules.way way.0 (f whole)) t (moved_by o)
  tried_moved hart way body todo rest whole t o walks lines more =
      let entered = both_told (of_hart hart way.1.items) (of_hart hart body.items) todo rest (body_told hart way.1.items body.items lines) more in
      subst (λ (w : W). Walks rules turns (of_hart hart body.items ++ rest) w t (moved_by o)) (move.way way.0 whole) (walks (of_hart hart body.items ++ rest) entered)

  mutual
    walks_moved : {todo : List (ℕ × Item)} {whole : W} {t : Tally} {o : Outcome W} → Walks rules turns todo whole t o → (others : List (ℕ × Item)) → told todo ≡ told others → Walks rules turns others (f whole) t (moved_by o)
    walks_moved finished [] same = finished
    walks_moved finished (x ∷ xs) same = cc
    walks_moved (gives_up {hart = hart} {item = item} {todo = todo} {whole = whole} {t = t} is over) others same =
        first_alike hart item todo others (f whole) t _ same (λ other rest lines more. gives_up (leaf_alike is other lines).0 over)
    walks_moved (taken {hart = hart} {line = line} {item = item} {todo = todo} {whole = whole} {next = next} {t = t} {o = o} is lt gives walks) others same =
        first_alike hart item todo others (f whole) t (moved_by o) same
        (λ other rest lines more. taken (leaf_alike is other lines).0 lt (move.turn hart item other (words 16 t.draws) whole (Taken next) (leaf_alike is other lines).1 gives) (walks_moved walks rest more))
    walks_moved (unfit {hart = hart} {line = line} {item = item} {todo = todo} {whole = whole} {t = t} is lt gives) others same =
        first_alike hart item todo others (f whole) t _ same
        (λ other rest lines more. unfit (leaf_alike is other lines).0 lt (move.turn hart item other (words 16 t.draws) whole NoneFits (leaf_alike is other lines).1 gives))
    walks_moved (too_large {hart = hart} {line = line} {item = item} {todo = todo} {whole = whole} {t = t} is lt gives) others same =
        first_alike hart item todo others (f whole) t _ same
        (λ other rest lines more. too_large (leaf_alike is other lines).0 lt (move.turn hart item other (words 16 t.draws) whole Spent (leaf_alike is other lines).1 gives))
    walks_moved (label {hart = hart} name {todo = todo} {whole = whole} {t = t} {o = o} walks) others same =
        first_alike hart (variants.Label name) todo others (f whole) t (moved_by o) same
        (λ other rest lines more.
        made_alike hart rest (f whole) t (moved_by o) other (variants.Label name) (label_alike name other lines)
        (label name (subst (λ (w : W). Walks rules turns rest w t (moved_by o)) (move.label hart name whole) (walks_moved walks rest more))))
    walks_moved (seq {hart = hart} body {todo = todo} {whole = whole} {t = t} {o = o} walks) others same =
        first_alike hart (views.Seq body) todo others (f whole) t (moved_by o) same
        (λ other rest lines more.
        let b = seq_alike body other lines in
        let entered = both_told (of_hart hart body.items) (of_hart hart b.0.items) todo rest (body_told hart body.items b.0.items b.2) more in
        made_alike hart rest (f whole) t (moved_by o) other (views.Seq b.0) b.1 (seq b.0 (walks_moved walks (of_hart hart b.0.items ++ rest) entered)))
    walks_moved (rep {hart = hart} times body {todo = todo} {whole = whole} {t = t} {o = o} walks) others same =
        first_alike hart (views.Repeat times body) todo others (f whole) t (moved_by o) same
        (λ other rest lines more.
        let b = repeat_alike times body other lines in
        let bodies = copies_told times (of_hart hart body.items) (of_hart hart b.0.items) (body_told hart body.items b.0.items b.2) in
        let entered = both_told (copies times (of_hart hart body.items)) (copies times (of_hart hart b.0.items)) todo rest bodies more in
        made_alike hart rest (f whole) t (moved_by o) other (views.Repeat times b.0) b.1 (rep times b.0 (walks_moved walks (copies times (of_hart hart b.0.items) ++ rest) entered)))
    walks_moved (choose {hart = hart} line ways {todo = todo} {whole = whole} {t = t} {o = o} tries) others same =
        first_alike hart (views.Choose line ways) todo others (f whole) t (moved_by o) same
        (λ other rest lines more.
        let v = choose_alike line ways other lines in
        let draw : ℕ = (pcg32 t.draws).0 in
        made_alike hart rest (f whole) t (moved_by o) other (views.Choose line v.0) v.1 (choose line v.0 (tries_moved tries (in_turn v.0.items draw) rest (turns_told ways.items v.0.items draw v.2) more)))

    tries_moved : {hart : ℕ} {ways : List (ℕ × Vec Item Global)} {todo : List (ℕ × Item)} {whole : W} {t : Tally} {o : Outcome W} → Tries rules turns hart ways todo whole t o
        → (others : List (ℕ × Vec Item Global)) (rest : List (ℕ × Item)) → told_ways ways ≡ told_ways others → told todo ≡ told rest → Tries rules turns hart others rest (f whole) t (moved_by o)
    tries_moved none_left [] rest same more = none_left
    tries_moved none_left (v ∷ vs) rest same more = cc
    tries_moved (leads {hart = hart} {way = way} {ways = ways} {todo = todo} {whole = whole} {next = next} {t = t} {u = u} walks) others rest same more =
        way_alike way ways others hart rest (f whole) t (Finished (f next) u) same (λ body left lines untried. leads (tried_moved hart way body todo rest whole t (Finished next u) (walks_moved walks) lines more))
    tries_moved (stops {hart = hart} {way = way} {ways = ways} {todo = todo} {whole = whole} {t = t} {u = u} walks) others rest same more =
        way_alike way ways others hart rest (f whole) t (GaveUp u) same (λ body left lines untried. stops (tried_moved hart way body todo rest whole t (GaveUp u) (walks_moved walks) lines more))
    tries_moved (goes_on {hart = hart} {way = way} {ways = ways} {todo = todo} {whole = whole} {t = t} {u = u} {o = o} walks tries) others rest same more =
        way_alike way ways others hart rest (f whole) t (moved_by o) same
        (λ body left lines untried. goes_on (tried_moved hart way body todo rest whole t (Dead u) (walks_moved walks) lines more) (tries_moved tries left rest untried more))

  comes_moved : {todo others : List (ℕ × Item)} {first : W} {o : Outcome W} {r : SearchResult W} → told todo ≡ told others → ComesTo (Walks rules turns todo first) o r → ComesTo (Walks rules turns others (f first)) (moved_by o) (result_by f r)
  comes_moved same done = done
  comes_moved same gave_up = gave_up
  comes_moved {others = others} same (again walks comes) = again (walks_moved walks others same) (comes_moved same comes)

pub searches_moved : {W : Type 0} (rules : Rules W) → SearchesAreMoved rules
searches_moved rules f move harts others same seed turns first r (o, walks, comes) =
    let alike = harts_told 0 harts others same in
    (moved_by rules f move turns o, walks_moved rules f move turns walks (all_items 0 others) alike, comes_moved rules f move turns alike comes)
