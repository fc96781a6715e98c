-- What a leaf turn that is taken does to the test that its fetch began with: the entries of the fetch were given, and then the step was made.
use Rattle.std.proofs.Common.{◌≡◌, ℕ, ◌+◌, ◌<◌, ◌≤◌, List, [], ◌∷◌, ◌++◌, length, take, Option, None, sym, ap, ◌∙◌, subst, inl, inr, arith}
use Rattle.std.specs.Prelude.{slice_get, slice_index_or, slice_set}
use Rattle.std.specs.List.{list_any}
use Rattle.rv_script.specs.declared.place.Place.{Place}
use Rattle.rv_script.specs.declared.place.Place.TheVariants.{Word}
use Rattle.rv_script.specs.Folds.{Known}
use Rattle.rv_hart.specs.declared.record.Record.{Record}
use Rattle.rv_hart.specs.Machine.{fetch_view}
use Rattle.sv_walk.specs.Translation.{root_address}
use Rattle.tpl_ast.specs.declared.template.Wish.{Wish}
use Rattle.tpl_ast.specs.Limits.{file_limits}
use Rattle.tpl_admit.specs.declared.dropped.Dropped.{Dropped}
use Rattle.tpl_admit.specs.Admitting.{unmet_atoms}
use Rattle.part_laws.specs.Partial.{Partial}
use Rattle.part_machine.specs.Whole.{Whole, records_of}
use Rattle.part_state.specs.Meaning.{IsTest, partial_of}
use Rattle.fd_solve.specs.declared.answers.Solved.{Solved}
use Rattle.fd_solve.specs.declared.answers.Solved.TheVariants as answers
use Rattle.leaf_link.specs.Admitted.{MetAreTrue, StepsAreFetched}
use Rattle.leaf_link.specs.Answers.{values_in}
use Rattle.leaf_link.specs.FetchAnswers.{IsFetchAnswer}
use Rattle.leaf_link.specs.Fetches.{fetch_places}
use Rattle.leaf_link.specs.FetchPlacing.{FetchWordsAreTwo, root_word}
use Rattle.leaf_link.specs.Placing.{AreTwoWords, NewWordsAreFour}
use Rattle.leaf_link.specs.Turns.{Turn}
use Rattle.turn_laws.specs.Laws.{IsBeside, IsStartOn}
use Rattle.turn_laws.proofs.Places.{beside}
use Rattle.turn_laws.proofs.Starts.{others_stay, start_then, starts_grow}
use Rattle.leaf_turn.specs.Answers.{ArePlaced}
use Rattle.leaf_turn.specs.Finding.{AnswersAreFound}
use Rattle.leaf_turn.specs.Grounds.{declared_set}
use Rattle.leaf_turn.specs.Wishes.{mandatory_of}
use Rattle.gen_search.specs.Search.{Turned.Taken}
use Rattle.gen_turn.specs.Drafts.{Drafted, at_test, turn_of}
use Rattle.gen_turn.specs.Grounds.{IsGround, IsLeafOf}
use Rattle.gen_turn.specs.Turns.{GoesOn, IsDone}
use Rattle.gen_turn.proofs.Behind.{fetched_ground}
use Rattle.gen_turn.proofs.Filled.{IsFilled, given_filled}
use Rattle.gen_turn.proofs.LeafDone.{IsLeafDone, answer_made, few_new, leaf_done}
use Rattle.gen_turn.proofs.Listing.{AreDroppedTo, place_of_step}
use Rattle.gen_turn.proofs.StepDone.{AreListedBehind, IsStepDone}
use Rattle.gen_turn.proofs.WordCounts.{aligned_word, two_words, words_given, words_in}

module _ (sets : ℕ → List ℕ) (k : ℕ) (ws : List Wish) (new : Known) (old mid after : Whole) (placed : ArePlaced k new old mid) (test_old : IsTest old) (hart_old : k < length old.harts) (test_mid : IsTest mid) where
  abbrev es : List (Place × ℕ)
  es = placed.places

  beside_mid : IsBeside old mid
  beside_mid = subst (IsBeside old) (sym placed.is) (beside k es old)

  hart_mid : k < length mid.harts
  hart_mid = let same = beside_mid.harts in omega (arith, hart_old, same)

  start_mid : IsStartOn (partial_of old) (partial_of mid)
  start_mid = subst (λ (w : Whole). IsStartOn (partial_of old) (partial_of w)) (sym placed.is) (starts_grow k es old test_old hart_old placed.can)

  records_mid : records_of k mid ≡ records_of k old
  records_mid = ap (λ (ts : List (List Record)). slice_index_or ts k []) beside_mid.traces

  filled_mid : (end : Partial) (regs : List (Option ℕ)) → IsStartOn (partial_of mid) end → IsFilled (partial_of old) k (end.start k).places regs → IsFilled (partial_of mid) k (end.start k).places regs
  filled_mid end regs on filled =
      subst (λ (w : Whole). IsFilled (partial_of w) k (end.start k).places regs) (sym placed.is)
      (given_filled k es old end regs test_old (subst IsTest placed.is test_mid) hart_old (subst (λ (w : Whole). k < length w.harts) placed.is hart_mid) placed.can
      (subst (λ (w : Whole). IsStartOn (partial_of w) end) placed.is on) filled)

  words_mid : words_in es ≤ 2 → length mid.words ≤ length old.words + 2
  words_mid few =
      let all : length mid.words ≡ length old.words + words_in es = ap (λ (w : Whole). length w.words) placed.is ∙ words_given k es old in
      omega (arith, few, all)

  others_mid : (j : ℕ) → (j ≡ k → ⊥) → ((partial_of mid).harts j ≡ (partial_of old).harts j) × ((partial_of mid).start j ≡ (partial_of old).start j)
  others_mid j apart =
      let held = others_stay k es old test_old hart_old placed.can j apart in (
        ap (λ (w : Whole). (partial_of w).harts j) placed.is ∙ held.0,
        ap (λ (w : Whole). (partial_of w).start j) placed.is ∙ held.1,
      )

  -- what is listed of a step, behind so many records and these biases
  abbrev ListedAt : List Record → List Dropped → Type 0
  ListedAt rs ds = (harts : ℕ) → k < harts → length rs < file_limits.steps → (more : List Dropped) × (after.dropped ≡ ds ++ more) × AreDroppedTo harts (place_of_step k (length rs)) more (place_of_step k (length rs + 1))

  listed_old : AreListedBehind k mid after.dropped → AreListedBehind k old after.dropped
  listed_old listed = subst (λ (rs : List Record). ListedAt rs old.dropped) records_mid (subst (ListedAt (records_of k mid)) beside_mid.dropped listed)

  module _ (few : words_in es ≤ 2) (fresh : length after.words ≤ length mid.words + 4) where
    step_behind : IsStepDone sets k ws mid after → IsStepDone sets k ws old after
    step_behind done = record {
      record_is = done.record_is;
      fit = done.fit;
      room = subst (λ (ts : List (List Record)). k < length ts) beside_mid.traces done.room;
      traces_are = done.traces_are ∙ ap (λ (ts : List (List Record)). slice_set ts k (slice_index_or ts k [] ++ done.record_is ∷ [])) beside_mid.traces;
      told = done.told ∙ ap (λ (rs : List Record). rs ++ done.record_is ∷ []) records_mid;
      others = λ j apart.
          let own = done.others j apart in
          let held = others_mid j apart in
          (own.0 ∙ ap (λ (ts : List (List Record)). slice_index_or ts j []) beside_mid.traces, own.1 ∙ held.0, own.2 ∙ held.1);
      traces = λ j le. done.traces j le ∙ ap (take j) beside_mid.traces;
      goes_to = done.goes_to;
      choices = done.choices ∙ beside_mid.choices;
      count = done.count ∙ beside_mid.harts;
      test = done.test;
      names = λ n v h. done.names n v (ap (λ (ns : List (Option ℕ)). slice_index_or ns n None) beside_mid.names ∙ h);
      above = λ m below n le. done.above m below n le ∙ ap (λ (ns : List (Option ℕ)). slice_index_or ns n None) beside_mid.names;
      many = done.many ∙ ap length beside_mid.names;
      values = λ n v h. elim (done.values n v h) [
        | inl was ↦ inl (ap (λ (ns : List (Option ℕ)). slice_index_or ns n None) (sym beside_mid.names) ∙ was)
        | inr is ↦ inr is
      ];
      listed = λ test h. done.listed test (ap (list_any test) beside_mid.dropped ∙ h);
      dropped = listed_old done.dropped;
      words = (let h = words_mid few in omega (arith, h, fresh));
      start = start_then (partial_of old) (partial_of mid) (partial_of after) start_mid done.start;
      filled = λ end regs on filled. done.filled end regs on (filled_mid end regs (start_then (partial_of mid) (partial_of after) end done.start on) filled);
    }

    pub leaf_behind : IsLeafDone sets k ws mid after → IsLeafDone sets k ws old after
    unfolding step_behind
    leaf_behind done = record {
      step = step_behind done.step;
      fetched = done.fetched;
      admits = λ names dropped end regs later filled.
          subst (λ (ts : List (List Record)). unmet_atoms dropped k (length (slice_index_or ts k [])) (record { done = done.step.record_is; regs = regs; names = names; others = take k ts }) ws ≡ []) beside_mid.traces
          (done.admits names dropped end regs later (filled_mid end regs (start_then (partial_of mid) (partial_of after) end done.step.start later.start) filled));
    }

-- ---- a turn of a `do` leaf

module _ (met_are_true : MetAreTrue) (are_fetched : StepsAreFetched) (words_are_few : NewWordsAreFour) (entries_are_two : FetchWordsAreTwo) (found_law : AnswersAreFound)
    (d : Drafted) (k : ℕ) (ws : List Wish) (g : IsGround d k) (built : IsLeafOf d.template ws) (draws : List ℕ) (e : Drafted) where
  pub turn_done : IsDone d k ws draws (Taken e) → IsLeafDone (λ n. declared_set (slice_get d.template.names n)) k ws d.now e.now
  turn_done done = go done.fetch done.is done.goes_on
    where
      go : (s : Solved) → IsFetchAnswer (turn_of d (mandatory_of ws) k) draws d.nodes s → GoesOn d k ws draws s (Taken e) → IsLeafDone (λ n. declared_set (slice_get d.template.names n)) k ws d.now e.now
      go (answers.Found x) is a =
          let t : Turn = turn_of d (mandatory_of ws) k in
          let new : Known = fetch_places t (values_in x) in
          let two : AreTwoWords new (root_word t) = entries_are_two t new is.1.is in
          let few : words_in a.placed.places ≤ 2 =
          two_words k (root_word t) two.other a.placed.places d.now g.test g.hart (aligned_word (root_address (fetch_view t.fixed) t.fixed.pc)) two.aligned a.placed.can (λ n v h. two.either n v (sym (a.placed.listed (Word n)) ∙ h)) in
          let mid : Drafted = at_test d a.fetched in
          let ground : IsGround mid k = fetched_ground d k new a.fetched g a.placed a.test a.words in
          let turn = answer_made found_law mid k ground ws built draws e a.answered in
          leaf_behind (λ n. declared_set (slice_get d.template.names n)) k ws new d.now a.fetched e.now a.placed g.test g.hart a.test few
          (few_new met_are_true are_fetched words_are_few mid k ws ground built draws e.now turn)
          (leaf_done met_are_true are_fetched words_are_few mid k ws ground built draws e.now turn)
      go answers.NoneFits is none = absurd (cc none)
      go answers.Spent is none = absurd (cc none)
