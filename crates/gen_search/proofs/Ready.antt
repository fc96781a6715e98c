-- Walks whose leaves and labels can be taken.
use Rattle.std.proofs.Common.{◌≡◌, ℕ, zero, suc, ◌<◌, ◌≤◌, List, [], ◌∷◌, ◌++◌, map, length, get_or, Some, refl, sym, ap, ◌∙◌, subst, arith}
use Rattle.std.specs.Prelude.{Vec}
use Rattle.std.specs.Global.{Global}
use Rattle.std.specs.List.{slice_get}
use Rattle.tpl_ast.specs.declared.template.Item.{Item}
use Rattle.tpl_ast.specs.declared.template.Item.TheViews as views
use Rattle.tpl_ast.specs.declared.template.Item.TheOpen as layers
use Rattle.tpl_ast.specs.declared.template.Item.TheVariants as variants
use Rattle.tpl_ast.specs.declared.template.Item.TheFolds.{fold-roll-Item}
use Rattle.tpl_ast.specs.declared.template.Wish.{Wish}
use Rattle.gen_search.specs.declared.choice.Choice.{Choice}
use Rattle.gen_search.specs.declared.draws.Tally.{Tally}
use Rattle.gen_search.specs.declared.place.Place.{Place}
use Rattle.gen_search.specs.declared.walk.Walk.{Walk}
use Rattle.gen_search.specs.Search.{IsLeaf, leaf, fault, copies, of_hart}
use Rattle.gen_search.specs.Places.{AreMarked, IsInside}
use Rattle.gen_search.specs.Ready.{AllowsAll, AreAllowed, AreChoicesReady, AreReady, IsChoiceReady, joined, joined_ways, parts_in, parts_of, parts_of_body, parts_of_ways, CanComeBack}
use Rattle.gen_search.specs.Wholes.{wholes, kept}
use Rattle.gen_search.proofs.Each.{Each}
use Rattle.gen_search.proofs.Kept.{get_kept, last_whole, marked_le, wholes_length}
use Rattle.gen_search.proofs.Results.{same_some}
use Rattle.gen_search.proofs.Ways.{tried_on}

-- ---- the leaves and labels of each item

leaf_parts : (line : ℕ) (wishes : Vec Wish Global) → parts_of (variants.Leaf line wishes) ≡ variants.Leaf line wishes ∷ []
leaf_parts line wishes = ap parts_of (sym (variants.rolls-Leaf line wishes)) ∙ fold-roll-Item (List Item) parts_in (layers.Leaf line wishes)

fault_parts : (line : ℕ) (causes : List ℕ) → parts_of (variants.FetchFault line causes) ≡ variants.FetchFault line causes ∷ []
fault_parts line causes = ap parts_of (sym (variants.rolls-FetchFault line causes)) ∙ fold-roll-Item (List Item) parts_in (layers.FetchFault line causes)

label_parts : (name : ℕ) → parts_of (variants.Label name) ≡ variants.Label name ∷ []
label_parts name = ap parts_of (sym (variants.rolls-Label name)) ∙ fold-roll-Item (List Item) parts_in (layers.Label name)

seq_parts : (body : Vec Item Global) → parts_of (views.Seq body) ≡ parts_of_body body.items
seq_parts body = ap parts_of (sym (variants.rolls-Seq body)) ∙ fold-roll-Item (List Item) parts_in (layers.Seq body)

repeat_parts : (times : ℕ) (body : Vec Item Global) → parts_of (views.Repeat times body) ≡ parts_of_body body.items
repeat_parts times body = ap parts_of (sym (variants.rolls-Repeat times body)) ∙ fold-roll-Item (List Item) parts_in (layers.Repeat times body)

ways_are : (g : ℕ × Vec Item Global → ℕ × Vec (List Item) Global) → ((w : ℕ × Vec Item Global) → (g w).1.items ≡ map parts_of w.1.items) → (ws : List (ℕ × Vec Item Global)) → joined_ways (map g ws) ≡ parts_of_ways ws
ways_are g inner [] = refl
ways_are g inner (w ∷ ws) = λ i. joined (inner w i) ++ ways_are g inner ws i

choose_parts : (line : ℕ) (ways : Vec (ℕ × Vec Item Global) Global) → parts_of (views.Choose line ways) ≡ parts_of_ways ways.items
choose_parts line ways =
    ap parts_of (sym (variants.rolls-Choose line ways))
    ∙ fold-roll-Item (List Item) parts_in (layers.Choose line ways)
    ∙ ways_are _ (λ w. refl) ways.items

-- ---- lists

module _ (can : ℕ → Item → Type 0) where
  allowed_parts : (hart : ℕ) (xs ys : List Item) → AreAllowed can hart (xs ++ ys) → AreAllowed can hart xs × AreAllowed can hart ys
  allowed_parts hart [] ys are = (tt, are)
  allowed_parts hart (x ∷ xs) ys are = let rest = allowed_parts hart xs ys are.1 in ((are.0, rest.0), rest.1)

  ready_append : (xs ys : List (ℕ × Item)) → AreReady can xs → AreReady can ys → AreReady can (xs ++ ys)
  ready_append [] ys first second = second
  ready_append (x ∷ xs) ys first second = (first.0, ready_append xs ys first.1 second)

  ready_body : (hart : ℕ) (items : List Item) → AreAllowed can hart (parts_of_body items) → AreReady can (of_hart hart items)
  ready_body hart [] are = tt
  ready_body hart (i ∷ is) are = let both = allowed_parts hart (parts_of i) (parts_of_body is) are in (both.0, ready_body hart is both.1)

  ready_copies : (times : ℕ) (xs : List (ℕ × Item)) → AreReady can xs → AreReady can (copies times xs)
  ready_copies zero xs are = tt
  ready_copies (suc n) xs are = ready_append xs (copies n xs) are (ready_copies n xs are)

  pub way_ready : (hart : ℕ) (ways : List (ℕ × Vec Item Global)) (i : ℕ) (d : ℕ × Vec Item Global) → AreAllowed can hart (parts_of_ways ways) → i < length ways → AreAllowed can hart (parts_of_body (get_or ways i d).1.items)
  way_ready hart [] i d are lt = absurd (omega (arith, lt))
  way_ready hart (w ∷ ws) zero d are lt = (allowed_parts hart (parts_of_body w.1.items) (parts_of_ways ws) are).0
  way_ready hart (w ∷ ws) (suc i) d are lt = way_ready hart ws i d (allowed_parts hart (parts_of_body w.1.items) (parts_of_ways ws) are).1 (omega (arith, lt))

  -- a body that is entered so many times, before what was left
  pub entered_ready : (hart times : ℕ) (items : List Item) (left todo : List (ℕ × Item)) → todo ≡ copies times (of_hart hart items) ++ left → AreAllowed can hart (parts_of_body items) → AreReady can left → AreReady can todo
  entered_ready hart times items left todo is body are = subst (AreReady can) (sym is) (ready_append (copies times (of_hart hart items)) left (ready_copies times (of_hart hart items) (ready_body hart items body)) are)

  -- ---- the next item

  pub next_ready : (hart : ℕ) (item : Item) (before behind : List (ℕ × Item)) → before ≡ (hart, item) ∷ behind → AreReady can before → AreAllowed can hart (parts_of item) × AreReady can behind
  next_ready hart item before behind is are = subst (AreReady can) is are

  pub seq_ready : (hart : ℕ) (item : Item) (body : Vec Item Global) (items : List Item) (before behind entered : List (ℕ × Item)) → before ≡ (hart, item) ∷ behind → item ≡ views.Seq body → items ≡ body.items
      → entered ≡ copies 1 (of_hart hart items) ++ behind → AreReady can before → AreReady can entered
  seq_ready hart item body items before behind entered is seq same enters are =
      let both = next_ready hart item before behind is are in
      let parts : parts_of item ≡ parts_of_body items = ap parts_of seq ∙ seq_parts body ∙ ap parts_of_body (sym same) in
      entered_ready hart 1 items behind entered enters (subst (AreAllowed can hart) parts both.0) both.1

  pub repeat_ready : (hart times : ℕ) (item : Item) (body : Vec Item Global) (items : List Item) (before behind entered : List (ℕ × Item)) → before ≡ (hart, item) ∷ behind → item ≡ views.Repeat times body → items ≡ body.items
      → entered ≡ copies times (of_hart hart items) ++ behind → AreReady can before → AreReady can entered
  repeat_ready hart times item body items before behind entered is rep same enters are =
      let both = next_ready hart item before behind is are in
      let parts : parts_of item ≡ parts_of_body items = ap parts_of rep ∙ repeat_parts times body ∙ ap parts_of_body (sym same) in
      entered_ready hart times items behind entered enters (subst (AreAllowed can hart) parts both.0) both.1

  pub choose_ready : (hart line : ℕ) (item : Item) (ways : Vec (ℕ × Vec Item Global) Global) (list : List (ℕ × Vec Item Global)) (before behind : List (ℕ × Item)) → before ≡ (hart, item) ∷ behind → item ≡ views.Choose line ways → list ≡ ways.items
      → AreReady can before → AreAllowed can hart (parts_of_ways list)
  choose_ready hart line item ways list before behind is chooses same are =
      subst (AreAllowed can hart) (ap parts_of chooses ∙ choose_parts line ways ∙ ap parts_of_ways (sym same)) (next_ready hart item before behind is are).0

  pub leaf_ready : (hart line : ℕ) (item : Item) (wishes : Vec Wish Global) (before behind : List (ℕ × Item)) → before ≡ (hart, item) ∷ behind → item ≡ variants.Leaf line wishes → AreReady can before → can hart item
  leaf_ready hart line item wishes before behind is same are =
      subst (can hart) (sym same) (subst (AreAllowed can hart) (ap parts_of same ∙ leaf_parts line wishes) (next_ready hart item before behind is are).0).0

  pub fault_ready : (hart line : ℕ) (item : Item) (causes : List ℕ) (before behind : List (ℕ × Item)) → before ≡ (hart, item) ∷ behind → item ≡ variants.FetchFault line causes → AreReady can before → can hart item
  fault_ready hart line item causes before behind is same are =
      subst (can hart) (sym same) (subst (AreAllowed can hart) (ap parts_of same ∙ fault_parts line causes) (next_ready hart item before behind is are).0).0

  pub label_ready : (hart name : ℕ) (item : Item) (before behind : List (ℕ × Item)) → before ≡ (hart, item) ∷ behind → item ≡ variants.Label name → AreReady can before → can hart (variants.Label name)
  label_ready hart name item before behind is label are =
      (subst (AreAllowed can hart) (ap parts_of label ∙ label_parts name) (next_ready hart item before behind is are).0).0

  -- ---- what comes first

  pub first_leaf : (hart line : ℕ) (item : Item) (todo : List (ℕ × Item)) → IsLeaf item line → AreReady can ((hart, item) ∷ todo) → can hart item
  first_leaf hart line item todo (leaf l wishes) are = (subst (AreAllowed can hart) (leaf_parts l wishes) are.0).0
  first_leaf hart line item todo (fault l causes) are = (subst (AreAllowed can hart) (fault_parts l causes) are.0).0

  pub first_label : (hart name : ℕ) (todo : List (ℕ × Item)) → AreReady can ((hart, variants.Label name) ∷ todo) → can hart (variants.Label name)
  first_label hart name todo are = (subst (AreAllowed can hart) (label_parts name) are.0).0

  pub body_before : (hart : ℕ) (body : Vec Item Global) (todo : List (ℕ × Item)) → AreAllowed can hart (parts_of_body body.items) → AreReady can todo → AreReady can (of_hart hart body.items ++ todo)
  body_before hart body todo allowed are = ready_append (of_hart hart body.items) todo (ready_body hart body.items allowed) are

  pub first_seq : (hart : ℕ) (body : Vec Item Global) (todo : List (ℕ × Item)) → AreReady can ((hart, views.Seq body) ∷ todo) → AreReady can (of_hart hart body.items ++ todo)
  first_seq hart body todo are = body_before hart body todo (subst (AreAllowed can hart) (seq_parts body) are.0) are.1

  pub first_repeat : (hart times : ℕ) (body : Vec Item Global) (todo : List (ℕ × Item)) → AreReady can ((hart, views.Repeat times body) ∷ todo) → AreReady can (copies times (of_hart hart body.items) ++ todo)
  first_repeat hart times body todo are =
      ready_append (copies times (of_hart hart body.items)) todo (ready_copies times (of_hart hart body.items) (ready_body hart body.items (subst (AreAllowed can hart) (repeat_parts times body) are.0))) are.1

  each_allowed : (hart : ℕ) (ways : List (ℕ × Vec Item Global)) → AreAllowed can hart (parts_of_ways ways) → Each (λ body. AreAllowed can hart (parts_of_body body.items)) ways
  each_allowed hart [] are = tt
  each_allowed hart (w ∷ ws) are = let both = allowed_parts hart (parts_of_body w.1.items) (parts_of_ways ws) are in (both.0, each_allowed hart ws both.1)

  pub first_choose : (hart line : ℕ) (ways : Vec (ℕ × Vec Item Global) Global) (todo : List (ℕ × Item)) → AreReady can ((hart, views.Choose line ways) ∷ todo) → Each (λ body. AreAllowed can hart (parts_of_body body.items)) ways.items
  first_choose hart line ways todo are = each_allowed hart ways.items (subst (AreAllowed can hart) (choose_parts line ways) are.0)

-- what can be taken stays so
module _ (W : Type 0) (can : W → ℕ → Item → Type 0) (old new : W) (still : AllowsAll can old new) where
  pub allowed_still : (hart : ℕ) (items : List Item) → AreAllowed (can old) hart items → AreAllowed (can new) hart items
  allowed_still hart [] are = tt
  allowed_still hart (i ∷ is) are = (still hart i are.0, allowed_still hart is are.1)

  pub ready_still : (todo : List (ℕ × Item)) → AreReady (can old) todo → AreReady (can new) todo
  ready_still [] are = tt
  ready_still (x ∷ xs) are = (allowed_still x.0 (parts_of x.1) are.0, ready_still xs are.1)

-- ---- choices that are come back to

module _ (W : Type 0) (can : W → ℕ → Item → Type 0) (first : W) where
  -- where the wholes up to a number stay
  pub choice_seen : (old new : List W) (c : Choice) (high : ℕ) → ((k : ℕ) → k ≤ high → slice_get new k ≡ slice_get old k) → c.mark ≤ high → IsChoiceReady can first old c → IsChoiceReady can first new c
  choice_seen old new c high same le ready = record { ways = ready.ways; place = ready.place; whole = λ w is. ready.whole w (sym (same c.mark le) ∙ is) }

  pub choices_seen : (old new : List W) (low : ℕ) (cs : List Choice) (high : ℕ) → ((k : ℕ) → k ≤ high → slice_get new k ≡ slice_get old k) → AreMarked low cs high → AreChoicesReady can first old cs → AreChoicesReady can first new cs
  choices_seen old new low [] high same marked ready = tt
  choices_seen old new low (c ∷ cs) high same marked ready =
      (choice_seen old new c high same (marked_le c.mark cs high marked.1) ready.0, choices_seen old new c.mark cs high same marked.1 ready.1)

  -- one alternative more was tried
  pub tried_ready : (old new : List W) (c : Choice) (high : ℕ) → ((k : ℕ) → k ≤ high → slice_get new k ≡ slice_get old k) → c.mark ≤ high → IsChoiceReady can first old c → IsChoiceReady can first new (tried_on c)
  tried_ready old new c high same le ready = let seen = choice_seen old new c high same le ready in record { ways = seen.ways; place = seen.place; whole = seen.whole }

  pub choices_last : (ws : List W) (cs : List Choice) (c : Choice) → AreChoicesReady can first ws cs → IsChoiceReady can first ws c → AreChoicesReady can first ws (cs ++ (c ∷ []))
  choices_last ws [] c are is = (is, tt)
  choices_last ws (d ∷ cs) c are is = (are.0, choices_last ws cs c are.1 is)

  choices_split : (ws : List W) (cs : List Choice) (c : Choice) (inner : List Choice) → AreChoicesReady can first ws (cs ++ (c ∷ inner)) → AreChoicesReady can first ws cs × IsChoiceReady can first ws c
  choices_split ws [] c inner are = (tt, are.0)
  choices_split ws (d ∷ cs) c inner are = let rest = choices_split ws cs c inner are.1 in ((are.0, rest.0), rest.1)

  pub choices_inside : (ws : List W) (all cs : List Choice) (c : Choice) → IsInside all cs c → AreChoicesReady can first ws all → AreChoicesReady can first ws cs × IsChoiceReady can first ws c
  choices_inside ws all cs c inside are = choices_split ws cs c inside.inner (subst (AreChoicesReady can first ws) inside.are are)

  -- the last whole is the one that stands
  pub last_allows : (xs : List W) (x : W) → AllowsAll can first x → (mark : ℕ) → mark ≡ length xs → (w : W) → slice_get (xs ++ (x ∷ [])) mark ≡ Some w → AllowsAll can first w
  last_allows xs x allows mark at w is =
      let same : x ≡ w = same_some W x w (sym (last_whole xs x) ∙ ap (slice_get (xs ++ (x ∷ []))) (sym at) ∙ is) in
      subst (AllowsAll can first) same allows

  -- a change that keeps the wholes keeps what can be come back to
  pub turned_back : (xs : List W) (x : W) (ys : List W) (y : W) (w : Walk) (p : Place) (t : Tally) → kept xs x ys y → AreMarked w.start w.choices.items (length xs) → CanComeBack can first (wholes xs x) w → CanComeBack can first (wholes ys y) (record w { place = p; tally = t })
  turned_back xs x ys y w p t same marked back =
      let seen : (k : ℕ) → k ≤ length xs → slice_get (wholes ys y) k ≡ slice_get (wholes xs x) k = λ k le. get_kept (wholes xs x) (wholes ys y) k same (omega (arith, le, wholes_length xs x)) in
      record {
        harts = back.harts;
        start = seen w.start (marked_le w.start w.choices.items (length xs) marked) ∙ back.start;
        choices = choices_seen (wholes xs x) (wholes ys y) w.start w.choices.items (length xs) seen marked back.choices;
      }
