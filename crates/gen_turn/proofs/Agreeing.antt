-- A turn of a leaf has one answer.
use Rattle.std.proofs.Common.{◌≡◌, ℕ, ◌<◌, Bool, List, [], length, map, refl, sym, ap, ◌∙◌, subst}
use Rattle.std.proofs.Math.Path.{fun_ext}
use Rattle.rv_script.specs.declared.place.Place.{Place}
use Rattle.rv_script.specs.Folds.{Known}
use Rattle.tpl_ast.specs.declared.template.Item.{Item}
use Rattle.tpl_ast.specs.declared.template.Wish.{Wish}
use Rattle.tpl_admit.specs.Variables.{value_of}
use Rattle.part_machine.specs.Whole.{Whole, records_of}
use Rattle.part_state.specs.Meaning.{IsTest}
use Rattle.dom_set.specs.Elements.{is_in}
use Rattle.fd_prob.specs.declared.problem.Assignment.{Assignment}
use Rattle.fd_solve.specs.declared.answers.Solved.{Solved}
use Rattle.fd_solve.specs.declared.answers.Solved.TheVariants as answers
use Rattle.leaf_link.specs.Agreements.{AreSame, FaultAnswersAgree, FetchAnswersAgree, LeafAnswersAgree}
use Rattle.leaf_link.specs.Answers.{values_in}
use Rattle.leaf_link.specs.FetchAnswers.{IsFaultAnswer}
use Rattle.leaf_link.specs.Fetches.{fetch_places}
use Rattle.leaf_link.specs.Extras.{IsTurnLeafAnswer}
use Rattle.leaf_link.specs.Turns.{Turn}
use Rattle.leaf_link.specs.Values.{Values, new_places}
use Rattle.leaf_turn.specs.declared.taking.Fetch.{Fetch}
use Rattle.leaf_turn.specs.declared.taking.Fetch.TheVariants as fetches
use Rattle.leaf_turn.specs.Answers.{ArePlaced, IsPlayable, TakingsAreOne}
use Rattle.leaf_turn.specs.Entering.{root_at}
use Rattle.leaf_turn.specs.Finding.{AnswersAreFound, FaultsArePlayable, FoundArePlayable}
use Rattle.leaf_turn.specs.Wishes.{biases_of, mandatory_of}
use Rattle.gen_search.specs.Laws.{HasOneAnswer}
use Rattle.gen_search.specs.Search.{IsLeaf, IsLeaf.leaf, IsLeaf.fault, Turned, Turned.Taken}
use Rattle.gen_turn.specs.Drafts.{Drafted, at_test, turn_of}
use Rattle.gen_turn.specs.Grounds.{IsGround, IsLeafOf}
use Rattle.gen_turn.specs.Rules.{Shown, can_be_taken, draft_of, draft_rules, turn_shown}
use Rattle.gen_turn.specs.Turns.{EndsAs, GoesOn, IsAnswered, IsAnsweredBehind, IsDone, IsFailed, IsLeafTaken, listed_as, moment_at, names_bound, with_all_dropped, with_names}
use Rattle.gen_turn.proofs.Behind.{fetched_ground, one_placed}
use Rattle.gen_turn.proofs.Failing.{playable}
use Rattle.gen_turn.proofs.Settling.{biases_are_plain, found, one_walk, posed, turn}

one_taken : TakingsAreOne → (k : ℕ) (ws : List Wish) (dropped : List (ℕ × Bool)) (fetch : Fetch) (x : Values) (old one other : Whole) → IsTest old → k < length old.harts → IsPlayable k old fetch x
    → IsLeafTaken k ws dropped x old one → IsLeafTaken k ws dropped x old other → one ≡ other
one_taken law k ws dropped fetch x old one other test l can a b =
    let same = law k fetch x a.done b.done old a.stepped b.stepped test l can a.taken b.taken in
    a.is
    ∙ (λ i. with_all_dropped (map (listed_as k (length (records_of k old)) ws) dropped)
    (with_names (names_bound (λ v. value_of v (moment_at k x (same.0 i) old)) dropped 0 ws (same.1 i).names) (same.1 i)))
    ∙ sym b.is

module _ (leaves : LeafAnswersAgree) (fetching : FetchAnswersAgree) (faults : FaultAnswersAgree) (takings : TakingsAreOne) (found_law : AnswersAreFound) (are_playable : FoundArePlayable) (faults_playable : FaultsArePlayable) where
  -- answers that say the same make one test
  one_ending : (d : Drafted) (k : ℕ) (g : IsGround d k) (ws : List Wish) (dropped drops : List (ℕ × Bool)) (fetch : Fetch) (places : Values → Known) (s u : Solved) (one other : Turned Drafted)
      → ((x : Assignment) → s ≡ answers.Found x → IsPlayable k d.now fetch (values_in x)) → AreSame places s u → dropped ≡ drops → EndsAs d k ws dropped s one → EndsAs d k ws drops u other → one ≡ other
  one_ending d k g ws dropped drops fetch places (answers.Found x) (answers.Found y) one other can same listed ends ends_so =
      let values : values_in x ≡ values_in y = fun_ext same.values in
      let moved : IsLeafTaken k ws dropped (values_in x) d.now ends_so.0 =
      subst (λ (ds : List (ℕ × Bool)). IsLeafTaken k ws ds (values_in x) d.now ends_so.0) (sym listed)
      (subst (λ (z : Values). IsLeafTaken k ws drops z d.now ends_so.0) (sym values) ends_so.1) in
      let after : ends.0 ≡ ends_so.0 = one_taken takings k ws dropped fetch (values_in x) d.now ends.0 ends_so.0 g.test g.hart (can x refl) ends.1 moved in
      ends.2 ∙ ap (λ (w : Whole). Taken (at_test d w)) after ∙ sym ends_so.2
  one_ending d k g ws dropped drops fetch places answers.NoneFits answers.NoneFits one other can same listed ends ends_so = ends ∙ sym ends_so
  one_ending d k g ws dropped drops fetch places answers.Spent answers.Spent one other can same listed ends ends_so = ends ∙ sym ends_so
  one_ending d k g ws dropped drops fetch places (answers.Found x) answers.NoneFits one other can same listed ends ends_so = absurd same
  one_ending d k g ws dropped drops fetch places (answers.Found x) answers.Spent one other can same listed ends ends_so = absurd same
  one_ending d k g ws dropped drops fetch places answers.NoneFits (answers.Found y) one other can same listed ends ends_so = absurd same
  one_ending d k g ws dropped drops fetch places answers.NoneFits answers.Spent one other can same listed ends ends_so = absurd same
  one_ending d k g ws dropped drops fetch places answers.Spent (answers.Found y) one other can same listed ends ends_so = absurd same
  one_ending d k g ws dropped drops fetch places answers.Spent answers.NoneFits one other can same listed ends ends_so = absurd same

  -- where the pc leads to one address
  one_answer : (d : Drafted) (k : ℕ) (g : IsGround d k) (ws : List Wish) (built : IsLeafOf d.template ws) (draws : List ℕ) (one other : Turned Drafted) → IsAnswered d k ws draws one → IsAnswered d k ws draws other → one ≡ other
  one_answer d k g ws built draws one other a b =
      let t : Turn = turn d k g ws built in
      let w = one_walk t a.walk b.walk a.pa b.pa a.leads b.leads in
      let there : IsTurnLeafAnswer t a.pa (mandatory_of ws) (biases_of ws) draws d.nodes b.answer = subst (λ (pa : ℕ). IsTurnLeafAnswer t pa (mandatory_of ws) (biases_of ws) draws d.nodes b.answer) (sym w.address) b.is in
      let agree = leaves t a.walk a.pa (mandatory_of ws) (biases_of ws) draws d.nodes a.answer b.answer (posed d k g ws built a.walk a.pa a.leads) (biases_are_plain d k g ws built) a.is there in
      one_ending d k g ws a.answer.dropped b.answer.dropped (fetches.From a.pa) (new_places t.fixed t.known) a.answer.solved b.answer.solved one other
      (λ x is. are_playable k d.now a.pa (values_in x) (found d k g ws built found_law draws one a x is)) agree.0 agree.1 a.ends b.ends

  module _ (d : Drafted) (k : ℕ) (g : IsGround d k) (ws : List Wish) (built : IsLeafOf d.template ws) (draws : List ℕ) (one other : Turned Drafted) where
    -- behind entries that are the same
    one_behind : (x y : Values) → ((place : Place) → fetch_places (turn d k g ws built) x place ≡ fetch_places (turn d k g ws built) y place) → IsAnsweredBehind d k ws draws x one → IsAnsweredBehind d k ws draws y other → one ≡ other
    one_behind x y same a b =
        let new : Known = fetch_places (turn d k g ws built) x in
        let placed : ArePlaced k new d.now b.fetched = subst (λ (n : Known). ArePlaced k n d.now b.fetched) (sym (fun_ext same)) b.placed in
        let now : a.fetched ≡ b.fetched = one_placed k new d.now a.fetched b.fetched g.test g.hart a.placed placed in
        one_answer (at_test d a.fetched) k (fetched_ground d k new a.fetched g a.placed a.test a.words) ws built draws one other a.answered
        (subst (λ (w : Whole). IsAnswered (at_test d w) k ws draws other) (sym now) b.answered)

    one_end : (s u : Solved) → AreSame (fetch_places (turn d k g ws built)) s u → GoesOn d k ws draws s one → GoesOn d k ws draws u other → one ≡ other
    one_end (answers.Found x) (answers.Found y) same a b = one_behind (values_in x) (values_in y) same.starts a b
    one_end answers.NoneFits answers.NoneFits same a b = a ∙ sym b
    one_end answers.Spent answers.Spent same a b = a ∙ sym b
    one_end (answers.Found x) answers.NoneFits same a b = absurd same
    one_end (answers.Found x) answers.Spent same a b = absurd same
    one_end answers.NoneFits (answers.Found y) same a b = absurd same
    one_end answers.NoneFits answers.Spent same a b = absurd same
    one_end answers.Spent (answers.Found y) same a b = absurd same
    one_end answers.Spent answers.NoneFits same a b = absurd same

    one_done : IsDone d k ws draws one → IsDone d k ws draws other → one ≡ other
    one_done a b = one_end a.fetch b.fetch (fetching (turn d k g ws built) draws d.nodes a.fetch b.fetch a.is b.is) a.goes_on b.goes_on

  one_failed : (d : Drafted) (k : ℕ) (g : IsGround d k) (causes draws : List ℕ) (one other : Turned Drafted) → IsFailed d k causes draws one → IsFailed d k causes draws other → one ≡ other
  one_failed d k g causes draws one other a b =
      let t : Turn = turn_of d [] k in
      one_ending d k g [] [] [] (fetches.Fails (root_at k d.now)) (new_places t.fixed t.known) a.fetch b.fetch one other
      (λ x is. playable faults_playable d k g causes draws x (subst (IsFaultAnswer t (is_in causes) draws d.nodes) is a.is))
      (faults t (is_in causes) draws d.nodes a.fetch b.fetch a.is b.is) refl a.ends b.ends

  one_turn : (s : Shown) (k line : ℕ) (i : Item) (draws : List ℕ) (a b : Turned Shown) → IsLeaf i line → can_be_taken s k i → draft_rules.turn k i draws s a → draft_rules.turn k i draws s b → a ≡ b
  one_turn s k line i draws a b (leaf _ wishes) can gives other =
      gives.2 ∙ ap turn_shown (one_done (draft_of s) k can.0 wishes.items can.1 draws gives.0 other.0 gives.1 other.1) ∙ sym other.2
  one_turn s k line i draws a b (fault _ causes) can gives other =
      gives.2 ∙ ap turn_shown (one_failed (draft_of s) k can causes draws gives.0 other.0 gives.1 other.1) ∙ sym other.2

  pub has_one_answer : HasOneAnswer can_be_taken draft_rules
  has_one_answer hart line i g s a b is_leaf can gives other = one_turn s hart line i _ a b is_leaf can gives other
