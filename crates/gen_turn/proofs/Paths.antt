-- The path of a walk that is finished: the pieces that it went through, and the tests between them.
use Rattle.std.proofs.Common.{◌≡◌, ℕ, zero, suc, ◌+◌, ◌<◌, List, [], ◌∷◌, ◌++◌, append_assoc, append-nil, drop, take, length, Some, refl, sym, ap, ◌∙◌, subst, arith}
use Rattle.std.specs.Prelude.{Vec}
use Rattle.std.specs.Global.{Global}
use Rattle.std.specs.List.{slice_get}
use Rattle.tpl_ast.specs.declared.template.Item.{Item}
use Rattle.tpl_ast.specs.declared.template.Template.{Template}
use Rattle.tpl_ast.specs.declared.template.Wish.{Wish}
use Rattle.tpl_ast.specs.declared.template.Item.TheVariants as items
use Rattle.tpl_ast.specs.declared.template.Item.TheViews as views
use Rattle.tpl_ast.specs.Expansion as pieces
use Rattle.part_machine.specs.Whole.{Whole, chosen, hart_of}
use Rattle.part_state.specs.Meaning.{IsTest}
use Rattle.part_state.specs.State.{data_of, whole}
use Rattle.part_state.proofs.States.{whole_again}
use Rattle.leaf_link.specs.Admitted.{MetAreTrue, StepsAreFetched}
use Rattle.leaf_link.specs.FetchPlacing.{FaultWordsAreTwo, FaultsAreUnfetched, FetchWordsAreTwo}
use Rattle.leaf_link.specs.Placing.{NewWordsAreFour}
use Rattle.leaf_turn.specs.Finding.{AnswersAreFound}
use Rattle.leaf_turn.specs.Grounds.{declared_set}
use Rattle.gen_search.specs.declared.draws.Tally.{Tally}
use Rattle.gen_search.specs.Draws.{words}
use Rattle.gen_search.specs.Laws.{StillAllows}
use Rattle.gen_search.specs.Ready.{AreAllowed, AreReady, parts_of_body}
use Rattle.gen_search.specs.Search.{ComesTo, ComesTo.done, ComesTo.gave_up, ComesTo.again, Done, NoTest, SearchResult, IsLeaf, IsLeaf.leaf, IsLeaf.fault, Outcome, Finished, Dead, GaveUp, Tries, Tries.none_left, Tries.leads, Tries.stops, Tries.goes_on, Turned, Turned.Taken, Turned.NoneFits, Turned.Spent, Walks, Walks.finished, Walks.gives_up, Walks.taken, Walks.unfit, Walks.too_large, Walks.label, Walks.seq, Walks.rep, Walks.choose, in_turn, numbered, of_hart, picked}
use Rattle.gen_search.proofs.Each.{Each, each_in_turn}
use Rattle.gen_search.proofs.Ready.{body_before, first_choose, first_label, first_leaf, first_repeat, first_seq, ready_still}
use Rattle.gen_turn.specs.Drafts.{Drafted}
use Rattle.gen_turn.specs.Grounds.{IsGround, IsLeafOf}
use Rattle.gen_turn.specs.Rules.{Shown, can_be_taken, draft_of, draft_rules, turn_shown}
use Rattle.gen_turn.specs.Turns.{IsDone, IsTurnedTo, with_name, with_names}
use Rattle.gen_turn.proofs.Laying.{AreWays, IsWay, LaidOut, Tagged, laid_choice, laid_fault, laid_label, laid_leaf, laid_out, laid_repeat, laid_seq}
use Rattle.gen_turn.proofs.FaultDone.{IsFaultDone, fault_done}
use Rattle.gen_turn.proofs.Earlier.{turn_done}
use Rattle.gen_turn.proofs.LeafDone.{IsLeafDone}
use Rattle.gen_turn.proofs.Names.{many_with_name}
use Rattle.gen_turn.proofs.NamesAhead.{AreInOrder, AreNamedAhead, choice_ahead, fault_ahead, label_ahead, leaf_ahead, repeat_ahead, seq_ahead}
use Rattle.gen_turn.proofs.Ending.{StartIsKept, turned_keeps}
use Rattle.gen_turn.proofs.Shortness.{IsWithin, choice_within, fault_within, label_within, leaf_within, length_of_todo, repeat_within, seq_within}
use Rattle.gen_turn.proofs.Staying.{chosen_ground, named_ground}

-- ---- tests on a path

-- some choices were made between two tests, and nothing else
abbrev pub with_choices : List ℕ → Whole → Whole
with_choices choices w = record w { choices = w.choices ++ choices }

abbrev pub IsChosen : Whole → Whole → Type 0
IsChosen w v = (choices : List ℕ) × (v ≡ with_choices choices w)

-- the sets of a template's names
abbrev pub sets_of : Template → ℕ → List ℕ
sets_of t n = declared_set (slice_get t.names n)

abbrev pub labelled : ℕ → ℕ → Whole → Whole
labelled k n w = with_names (with_name n (Some (hart_of k w).pc) w.names) w

-- from a test the pieces lead to the last one; the sets are those of the names
abbrev pub Made : (ℕ → List ℕ) → Whole → List Tagged → Whole → Type 0
Made sets last [] w = IsChosen w last
Made sets last ((k, pieces.Leaf ws) ∷ ps) w = (before : Whole) × (after : Whole) × IsChosen w before × (k < length before.harts) × IsLeafDone sets k ws before after × Made sets last ps after
Made sets last ((k, pieces.Label n) ∷ ps) w = (before : Whole) × IsChosen w before × (k < length before.harts) × (n < length before.names) × Made sets last ps (labelled k n before)
Made sets last ((k, pieces.FetchFault causes) ∷ ps) w = (before : Whole) × (after : Whole) × IsChosen w before × (k < length before.harts) × IsFaultDone sets k causes before after × Made sets last ps after
Made sets last ((k, pieces.Stuck) ∷ ps) w = ⊥

no_choices : (w : Whole) → IsChosen w w
no_choices w = ([], ap (λ (cs : List ℕ). record w { choices = cs }) (sym (append-nil w.choices)))

chosen_before : (n : ℕ) (w v : Whole) → IsChosen (chosen n w) v → IsChosen w v
chosen_before n w v is = (n ∷ is.0, is.1 ∙ ap (λ (cs : List ℕ). record w { choices = cs }) (append_assoc w.choices (n ∷ []) is.0))

made_before : (sets : ℕ → List ℕ) (last : Whole) (n : ℕ) (ps : List Tagged) (w : Whole) → Made sets last ps (chosen n w) → Made sets last ps w
made_before sets last n [] w made = chosen_before n w last made
made_before sets last n ((k, pieces.Leaf ws) ∷ ps) w made = (made.0, made.1, chosen_before n w made.0 made.2, made.3, made.4, made.5)
made_before sets last n ((k, pieces.Label m) ∷ ps) w made = (made.0, chosen_before n w made.0 made.1, made.2, made.3, made.4)
made_before sets last n ((k, pieces.FetchFault causes) ∷ ps) w made = (made.0, made.1, chosen_before n w made.0 made.2, made.3, made.4, made.5)
made_before sets last n ((k, pieces.Stuck) ∷ ps) w made = absurd made

-- ---- alternatives by their numbers

ways_append : (all xs ys : List (ℕ × Vec Item Global)) → AreWays all xs → AreWays all ys → AreWays all (xs ++ ys)
ways_append all [] ys are more = more
ways_append all (x ∷ xs) ys are more = (are.0, ways_append all xs ys are.1 more)

ways_drop : (all : List (ℕ × Vec Item Global)) (n : ℕ) (xs : List (ℕ × Vec Item Global)) → AreWays all xs → AreWays all (drop n xs)
ways_drop all zero xs are = are
ways_drop all (suc n) [] are = tt
ways_drop all (suc n) (x ∷ xs) are = ways_drop all n xs are.1

ways_take : (all : List (ℕ × Vec Item Global)) (n : ℕ) (xs : List (ℕ × Vec Item Global)) → AreWays all xs → AreWays all (take n xs)
ways_take all zero xs are = tt
ways_take all (suc n) [] are = tt
ways_take all (suc n) (x ∷ xs) are = (are.0, ways_take all n xs are.1)

ways_numbered : (all : List (ℕ × Vec Item Global)) (n : ℕ) (ws : List (ℕ × Vec Item Global)) → ((i : ℕ) → slice_get all (n + i) ≡ slice_get ws i) → AreWays all (numbered n ws)
ways_numbered all n [] same = tt
ways_numbered all n (w ∷ ws) same =
    ((w, ap (slice_get all) (omega arith) ∙ same 0, refl), ways_numbered all (n + 1) ws (λ i. ap (slice_get all) (omega arith) ∙ same (suc i)))

ways_in_turn : (all : List (ℕ × Vec Item Global)) (draw : ℕ) → AreWays all (in_turn all draw)
ways_in_turn all draw =
    let are : AreWays all (numbered 0 all) = ways_numbered all 0 all (λ i. ap (slice_get all) (omega arith)) in
    ways_append all (drop (picked all draw) (numbered 0 all)) (take (picked all draw) (numbered 0 all)) (ways_drop all (picked all draw) (numbered 0 all) are) (ways_take all (picked all draw) (numbered 0 all) are)

-- ---- walks

-- a path from a test to the end, through what is left to do
pub record IsPath (t : Template) (todo : List (ℕ × Item)) (s last : Shown) : Type 0 where
  pub choices : List ℕ
  pub ps : List Tagged
  pub laid : laid_out todo choices ≡ record { pieces = ps; left = Some [] }
  pub taken : last.now.choices ≡ s.now.choices ++ choices
  pub made : Made (sets_of t) (whole last.now) ps (whole s.now)
  pub order : (m : ℕ) → AreNamedAhead todo m → AreInOrder ps m
  pub tested : IsTest (whole last.now)
  pub short : IsWithin ps choices (length_of_todo todo)

abbrev pub EndsInPath : Template → List (ℕ × Item) → Shown → Outcome Shown → Type 0
EndsInPath t todo s (Finished last u) = IsPath t todo s last
EndsInPath t todo s (Dead u) = Unit {0}
EndsInPath t todo s (GaveUp u) = Unit {0}

-- a path of one of the alternatives
abbrev pub EndsInWay : Template → List (ℕ × Vec Item Global) → ℕ → List (ℕ × Item) → Shown → Outcome Shown → Type 0
EndsInWay t all k todo s (Finished last u) = (x : ℕ × Vec Item Global) × IsWay all x × IsPath t (of_hart k x.1.items ++ todo) (draft_rules.way x.0 s) last
EndsInWay t all k todo s (Dead u) = Unit {0}
EndsInWay t all k todo s (GaveUp u) = Unit {0}

one_piece : (p : Tagged) (l : LaidOut) (ps : List Tagged) → l ≡ record { pieces = ps; left = Some [] } → ◌≡◌ {A = LaidOut} (record { pieces = p ∷ l.pieces; left = l.left }) (record { pieces = p ∷ ps; left = Some [] })
one_piece p l ps h = ap (λ (m : LaidOut). record { pieces = p ∷ m.pieces; left = m.left }) h

-- what is used of the new words of a fetch, and of one that fails
pub record EntriesAreByPlaces : Type 0 where
  pub fetch_words : FetchWordsAreTwo
  pub fault_words : FaultWordsAreTwo
  pub unfetched : FaultsAreUnfetched

module _ (met_are_true : MetAreTrue) (are_fetched : StepsAreFetched) (words_are_few : NewWordsAreFour) (entries : EntriesAreByPlaces) (found_law : AnswersAreFound) (still : StillAllows can_be_taken draft_rules) (t : Template) (turns : ℕ) where
  done_by : (s : Shown) (k : ℕ) (ws : Vec Wish Global) (can : IsGround (draft_of s) k × IsLeafOf s.template ws.items) (e : Drafted) (draws : List ℕ) → IsDone (draft_of s) k ws.items draws (Taken e) → IsLeafDone (sets_of s.template) k ws.items (whole s.now) e.now
  done_by s k ws can e draws is = turn_done met_are_true are_fetched words_are_few entries.fetch_words found_law (draft_of s) k ws.items can.0 can.1 draws e is

  -- behind a turn that is taken is the test that it made
  taken_is : (next : Shown) (e : Drafted) → Taken next ≡ turn_shown (Taken e) → IsTest e.now → whole next.now ≡ e.now
  taken_is next e same test = ap (λ (f : Shown). whole f.now) (ap (λ (r : Turned Shown). elim r [ Taken f ↦ f | NoneFits ↦ next | Spent ↦ next ]) same) ∙ whole_again e.now test

  -- a leaf turn that is taken
  leaf_path : (k line : ℕ) (item : Item) (todo : List (ℕ × Item)) (s next last : Shown) (draws : List ℕ) → IsLeaf item line → s.template ≡ t → can_be_taken s k item → draft_rules.turn k item draws s (Taken next) → IsPath t todo next last → IsPath t ((k, item) ∷ todo) s last
  leaf_path k line item todo s next last draws (leaf _ ws) same_t can gives p = go gives.0 gives.1 gives.2
    where
      go : (r : Turned Drafted) → IsTurnedTo (draft_of s) k (items.Leaf line ws) draws r → Taken next ≡ turn_shown r → IsPath t ((k, items.Leaf line ws) ∷ todo) s last
      go (Taken e) is same =
          let done : IsLeafDone (sets_of t) k ws.items (whole s.now) e.now =
          subst (λ (u : Template). IsLeafDone (sets_of u) k ws.items (whole s.now) e.now) same_t (done_by s k ws can e draws is) in
          let now_is : whole next.now ≡ e.now = taken_is next e same done.step.test in
          record {
            choices = p.choices;
            ps = (k, pieces.Leaf ws.items) ∷ p.ps;
            laid = laid_leaf k todo line ws p.choices ∙ one_piece (k, pieces.Leaf ws.items) (laid_out todo p.choices) p.ps p.laid;
            taken = p.taken ∙ ap (λ (cs : List ℕ). cs ++ p.choices) (ap (λ (w : Whole). w.choices) now_is ∙ done.step.choices);
            made = (whole s.now, whole next.now, no_choices (whole s.now), can.0.hart, subst (IsLeafDone (sets_of t) k ws.items (whole s.now)) (sym now_is) done, p.made);
            order = λ m named. let a = leaf_ahead k todo m line ws named in (a.0, a.1, a.2, p.order a.0 a.3);
            tested = p.tested;
            short = leaf_within k todo p.ps p.choices line ws p.short;
          }
      go NoneFits is same = absurd (cc same)
      go Spent is same = absurd (cc same)
  leaf_path k line item todo s next last draws (fault _ causes) same_t can gives p = go gives.0 gives.1 gives.2
    where
      go : (r : Turned Drafted) → IsTurnedTo (draft_of s) k (items.FetchFault line causes) draws r → Taken next ≡ turn_shown r → IsPath t ((k, items.FetchFault line causes) ∷ todo) s last
      go (Taken e) is same =
          let done : IsFaultDone (sets_of t) k causes (whole s.now) e.now = fault_done entries.unfetched entries.fault_words (draft_of s) k can causes draws (sets_of t) e is in
          let now_is : whole next.now ≡ e.now = taken_is next e same done.step.test in
          record {
            choices = p.choices;
            ps = (k, pieces.FetchFault causes) ∷ p.ps;
            laid = laid_fault k todo line causes p.choices ∙ one_piece (k, pieces.FetchFault causes) (laid_out todo p.choices) p.ps p.laid;
            taken = p.taken ∙ ap (λ (cs : List ℕ). cs ++ p.choices) (ap (λ (w : Whole). w.choices) now_is ∙ done.step.choices);
            made = (whole s.now, whole next.now, no_choices (whole s.now), can.hart, subst (IsFaultDone (sets_of t) k causes (whole s.now)) (sym now_is) done, p.made);
            order = λ m named. p.order m (fault_ahead k todo m line causes named);
            tested = p.tested;
            short = fault_within k todo p.ps p.choices line causes p.short;
          }
      go NoneFits is same = absurd (cc same)
      go Spent is same = absurd (cc same)

  label_path : (k name : ℕ) (todo : List (ℕ × Item)) (s last : Shown) → can_be_taken s k (items.Label name) → IsPath t todo (draft_rules.label k name s) last → IsPath t ((k, items.Label name) ∷ todo) s last
  label_path k name todo s last can p =
      let now_is : whole (data_of (labelled k name (whole s.now))) ≡ labelled k name (whole s.now) =
      whole_again (labelled k name (whole s.now)) ((named_ground _ (whole s.now) (many_with_name name (Some (hart_of k (whole s.now)).pc) s.now.names)).test can.0.test) in
      record {
        choices = p.choices;
        ps = (k, pieces.Label name) ∷ p.ps;
        laid = laid_label k todo name p.choices ∙ one_piece (k, pieces.Label name) (laid_out todo p.choices) p.ps p.laid;
        taken = p.taken;
        made = (whole s.now, no_choices (whole s.now), can.0.hart, subst (λ (n : ℕ). name < n) (sym can.0.names) can.1, subst (Made (sets_of t) (whole last.now) p.ps) now_is p.made);
        order = λ m named. let a = label_ahead k todo m name named in (a.0, p.order (name + 1) a.1);
        tested = p.tested;
        short = label_within k todo p.ps p.choices name p.short;
      }

  choice_path : (k line : ℕ) (ways : Vec (ℕ × Vec Item Global) Global) (todo : List (ℕ × Item)) (s last : Shown) (x : ℕ × Vec Item Global) → IsTest (whole s.now)
      → IsWay ways.items x → IsPath t (of_hart k x.1.items ++ todo) (draft_rules.way x.0 s) last → IsPath t ((k, views.Choose line ways) ∷ todo) s last
  choice_path k line ways todo s last x test way p =
      let now_is : whole (data_of (chosen x.0 (whole s.now))) ≡ chosen x.0 (whole s.now) = whole_again (chosen x.0 (whole s.now)) ((chosen_ground x.0 (whole s.now)).test test) in
      record {
        choices = x.0 ∷ p.choices;
        ps = p.ps;
        laid = laid_choice k todo line ways x.0 way.0 p.choices way.1 ∙ ap (λ (b : Vec Item Global). laid_out (of_hart k b.items ++ todo) p.choices) way.2 ∙ p.laid;
        taken = p.taken ∙ append_assoc s.now.choices (x.0 ∷ []) p.choices;
        made = made_before (sets_of t) (whole last.now) x.0 p.ps (whole s.now) (subst (Made (sets_of t) (whole last.now) p.ps) now_is p.made);
        order = λ m named. p.order m (subst (λ (b : Vec Item Global). AreNamedAhead (of_hart k b.items ++ todo) m) way.2 (choice_ahead k todo m line ways x.0 way.0 way.1 named));
        tested = p.tested;
        short = choice_within k todo p.ps p.choices line ways x.0 way.0 way.1 (subst (λ (b : Vec Item Global). IsWithin p.ps p.choices (length_of_todo (of_hart k b.items ++ todo))) (sym way.2) p.short);
      }

  -- what is carried from test to test
  pub record IsCarried (todo : List (ℕ × Item)) (s : Shown) : Type 0 where
    pub ready : AreReady (can_be_taken s) todo
    pub test : IsTest (whole s.now)
    pub template : s.template ≡ t

  leaf_test : (k line : ℕ) (item : Item) (s next : Shown) (draws : List ℕ) → IsLeaf item line → can_be_taken s k item → draft_rules.turn k item draws s (Taken next) → IsTest (whole next.now)
  leaf_test k line item s next draws (leaf _ ws) can gives = go gives.0 gives.1 gives.2
    where
      go : (r : Turned Drafted) → IsTurnedTo (draft_of s) k (items.Leaf line ws) draws r → Taken next ≡ turn_shown r → IsTest (whole next.now)
      go (Taken e) is same = let done = done_by s k ws can e draws is in subst IsTest (sym (taken_is next e same done.step.test)) done.step.test
      go NoneFits is same = absurd (cc same)
      go Spent is same = absurd (cc same)
  leaf_test k line item s next draws (fault _ causes) can gives = go gives.0 gives.1 gives.2
    where
      go : (r : Turned Drafted) → IsTurnedTo (draft_of s) k (items.FetchFault line causes) draws r → Taken next ≡ turn_shown r → IsTest (whole next.now)
      go (Taken e) is same = let done = fault_done entries.unfetched entries.fault_words (draft_of s) k can causes draws (sets_of s.template) e is in subst IsTest (sym (taken_is next e same done.step.test)) done.step.test
      go NoneFits is same = absurd (cc same)
      go Spent is same = absurd (cc same)

  leaf_template : (k line : ℕ) (item : Item) (s next : Shown) (draws : List ℕ) → IsLeaf item line → draft_rules.turn k item draws s (Taken next) → next.template ≡ s.template
  leaf_template k line item s next draws is_leaf gives = go gives.0 gives.2 (turned_keeps (draft_of s) k item line draws gives.0 is_leaf gives.1)
    where
      go : (r : Turned Drafted) → Taken next ≡ turn_shown r → StartIsKept (draft_of s) r → next.template ≡ s.template
      go (Taken e) same kept = ap (λ (r : Turned Shown). elim r [ Taken f ↦ f.template | NoneFits ↦ next.template | Spent ↦ next.template ]) same ∙ kept.template
      go NoneFits same kept = absurd (cc same)
      go Spent same kept = absurd (cc same)

  leaf_carried : (k line : ℕ) (item : Item) (todo : List (ℕ × Item)) (s next : Shown) (u : Tally) → IsLeaf item line → IsCarried ((k, item) ∷ todo) s → draft_rules.turn k item (words 16 u.draws) s (Taken next) → IsCarried todo next
  leaf_carried k line item todo s next u is_leaf c gives =
      let can : can_be_taken s k item = first_leaf (can_be_taken s) k line item todo is_leaf c.ready in
      record { ready = ready_still Shown can_be_taken s next (still.turn k line item u.draws s next is_leaf can gives) todo c.ready.1; test = leaf_test k line item s next _ is_leaf can gives; template = leaf_template k line item s next _ is_leaf gives ∙ c.template }

  label_carried : (k name : ℕ) (todo : List (ℕ × Item)) (s : Shown) → IsCarried ((k, items.Label name) ∷ todo) s → IsCarried todo (draft_rules.label k name s)
  label_carried k name todo s c =
      let can : can_be_taken s k (items.Label name) = first_label (can_be_taken s) k name todo c.ready in
      let new : IsTest (labelled k name (whole s.now)) = (named_ground _ (whole s.now) (many_with_name name (Some (hart_of k (whole s.now)).pc) s.now.names)).test c.test in
      record {
        ready = ready_still Shown can_be_taken s (draft_rules.label k name s) (still.label k name s can) todo c.ready.1;
        test = subst IsTest (sym (whole_again (labelled k name (whole s.now)) new)) new;
        template = c.template;
      }

  way_carried : (k n : ℕ) (body : Vec Item Global) (todo : List (ℕ × Item)) (s : Shown) → AreAllowed (can_be_taken s) k (parts_of_body body.items) → IsCarried todo s → IsCarried (of_hart k body.items ++ todo) (draft_rules.way n s)
  way_carried k n body todo s allowed c =
      let new : IsTest (chosen n (whole s.now)) = (chosen_ground n (whole s.now)).test c.test in
      record {
        ready = ready_still Shown can_be_taken s (draft_rules.way n s) (still.way n s) (of_hart k body.items ++ todo) (body_before (can_be_taken s) k body todo allowed c.ready);
        test = subst IsTest (sym (whole_again (chosen n (whole s.now)) new)) new;
        template = c.template;
      }

  leaf_ends : (k line : ℕ) (item : Item) (todo : List (ℕ × Item)) (s next : Shown) (draws : List ℕ) (o : Outcome Shown) → IsLeaf item line → s.template ≡ t → can_be_taken s k item → draft_rules.turn k item draws s (Taken next) → EndsInPath t todo next o → EndsInPath t ((k, item) ∷ todo) s o
  leaf_ends k line item todo s next draws (Finished last u) is_leaf same_t can gives p = leaf_path k line item todo s next last draws is_leaf same_t can gives p
  leaf_ends k line item todo s next draws (Dead u) is_leaf same_t can gives p = tt
  leaf_ends k line item todo s next draws (GaveUp u) is_leaf same_t can gives p = tt

  label_ends : (k name : ℕ) (todo : List (ℕ × Item)) (s : Shown) (o : Outcome Shown) → can_be_taken s k (items.Label name) → EndsInPath t todo (draft_rules.label k name s) o → EndsInPath t ((k, items.Label name) ∷ todo) s o
  label_ends k name todo s (Finished last u) can p = label_path k name todo s last can p
  label_ends k name todo s (Dead u) can p = tt
  label_ends k name todo s (GaveUp u) can p = tt

  -- the same path, through items that are laid out alike
  alike_ends : (todo other : List (ℕ × Item)) (s : Shown) (o : Outcome Shown) → ((choices : List ℕ) → laid_out other choices ≡ laid_out todo choices) → ((m : ℕ) → AreNamedAhead other m → AreNamedAhead todo m)
      → ((ps : List Tagged) (choices : List ℕ) → IsWithin ps choices (length_of_todo todo) → IsWithin ps choices (length_of_todo other)) → EndsInPath t todo s o → EndsInPath t other s o
  alike_ends todo other s (Finished last u) same ahead within p = record { choices = p.choices; ps = p.ps; laid = same p.choices ∙ p.laid; taken = p.taken; made = p.made; order = λ m named. p.order m (ahead m named); tested = p.tested; short = within p.ps p.choices p.short }
  alike_ends todo other s (Dead u) same ahead within p = tt
  alike_ends todo other s (GaveUp u) same ahead within p = tt

  choice_ends : (k line : ℕ) (ways : Vec (ℕ × Vec Item Global) Global) (todo : List (ℕ × Item)) (s : Shown) (o : Outcome Shown) → IsTest (whole s.now) → EndsInWay t ways.items k todo s o → EndsInPath t ((k, views.Choose line ways) ∷ todo) s o
  choice_ends k line ways todo s (Finished last u) test p = choice_path k line ways todo s last p.0 test p.1 p.2
  choice_ends k line ways todo s (Dead u) test p = tt
  choice_ends k line ways todo s (GaveUp u) test p = tt

  mutual
    pub walk_ends : {todo : List (ℕ × Item)} {s : Shown} {u : Tally} {o : Outcome Shown} → Walks draft_rules turns todo s u o → IsCarried todo s → EndsInPath t todo s o
    walk_ends {todo} {s} finished c = record { choices = []; ps = []; laid = refl; taken = sym (append-nil s.now.choices); made = no_choices (whole s.now); order = λ m named. tt; tested = c.test; short = omega arith }
    walk_ends (gives_up is_leaf over) c = tt
    walk_ends {todo} {s} {u} {o} (taken is_leaf lt gives walks) c =
        leaf_ends _ _ _ _ s _ _ o is_leaf c.template (first_leaf (can_be_taken s) _ _ _ _ is_leaf c.ready) gives (walk_ends walks (leaf_carried _ _ _ _ s _ u is_leaf c gives))
    walk_ends (unfit is_leaf lt gives) c = tt
    walk_ends (too_large is_leaf lt gives) c = tt
    walk_ends {todo} {s} {u} {o} (label name walks) c = label_ends _ name _ s o (first_label (can_be_taken s) _ name _ c.ready) (walk_ends walks (label_carried _ name _ s c))
    walk_ends {todo} {s} {u} {o} (seq body walks) c = alike_ends _ _ s o (laid_seq _ _ body) (λ m named. seq_ahead _ _ m body named) (λ ps choices h. seq_within _ _ ps choices body h) (walk_ends walks (record { ready = first_seq (can_be_taken s) _ body _ c.ready; test = c.test; template = c.template }))
    walk_ends {todo} {s} {u} {o} (rep times body walks) c = alike_ends _ _ s o (laid_repeat _ _ times body) (λ m named. repeat_ahead _ _ m times body named) (λ ps choices h. repeat_within _ _ ps choices times body h) (walk_ends walks (record { ready = first_repeat (can_be_taken s) _ times body _ c.ready; test = c.test; template = c.template }))
    walk_ends {todo} {s} {u} {o} (choose line ways tries) c =
        choice_ends _ line ways _ s o c.test
        (try_ends ways.items tries (each_in_turn _ ways.items _ (first_choose (can_be_taken s) _ line ways _ c.ready)) (ways_in_turn ways.items _) (record { ready = c.ready.1; test = c.test; template = c.template }))

    try_ends : (all : List (ℕ × Vec Item Global)) {k : ℕ} {ways : List (ℕ × Vec Item Global)} {todo : List (ℕ × Item)} {s : Shown} {u : Tally} {o : Outcome Shown} → Tries draft_rules turns k ways todo s u o
        → Each (λ body. AreAllowed (can_be_taken s) k (parts_of_body body.items)) ways → AreWays all ways → IsCarried todo s → EndsInWay t all k todo s o
    try_ends all none_left each are c = tt
    try_ends all {k} {ways} {todo} {s} (leads {way = way} walks) each are c = (way, are.0, walk_ends walks (way_carried k way.0 way.1 todo s each.0 c))
    try_ends all (stops walks) each are c = tt
    try_ends all (goes_on walks tries) each are c = try_ends all tries each.1 are.1 c

  -- ---- searches

  abbrev pub ResultHasPath : List (ℕ × Item) → Shown → SearchResult Shown → Type 0
  ResultHasPath todo first (Done last u) = IsPath t todo first last
  ResultHasPath todo first (NoTest u) = Unit {0}

  pub search_ends : {todo : List (ℕ × Item)} {first : Shown} {o : Outcome Shown} {r : SearchResult Shown} → IsCarried todo first → ComesTo (Walks draft_rules turns todo first) o r → EndsInPath t todo first o → ResultHasPath todo first r
  search_ends c done ends = ends
  search_ends c gave_up ends = tt
  search_ends c (again walks comes) ends = search_ends c comes (walk_ends walks c)
