-- What a leaf turn that is taken does to a test, and that its leaf admits the step.
use Rattle.std.proofs.Common.{◌≡◌, ℕ, zero, suc, ◌+◌, ◌-◌, ◌<◌, ◌≤◌, ◌^◌, ◌%◌, ◌&&◌, ◌||◌, ◌==◌, Bool, true, false, if◌then◌else◌, List, [], ◌∷◌, ◌++◌, length, map, min, take, Option, Some, None, ◌⊎◌, refl, sym, ap, ◌∙◌, subst, inl, inr, arith}
use Rattle.std.specs.Prelude.{slice_get, slice_index_or}
use Rattle.std.specs.List.{list_all, list_any}
use Rattle.std.proofs.lemmas.Bool.{and_parts, cases_lt, eq-eqb, eqb-true, ltb-true}
use Rattle.rv_script.specs.declared.place.Place.{Place}
use Rattle.rv_script.specs.declared.place.Place.TheVariants.{Reg, Word}
use Rattle.rv_script.specs.Folds.{Answer, Answer.Does, Answer.Missing, Answer.Nowhere, Entry, Known}
use Rattle.rv_script.specs.Lists.{HasItem}
use Rattle.rv_script.specs.Logs.{enlarged, or_else, started}
use Rattle.dom_set.specs.Elements.{is_in}
use Rattle.rv_hart.specs.declared.record.Change.{Change}
use Rattle.rv_hart.specs.declared.record.Record.{Record}
use Rattle.sv_walk.proofs.Offsets.{offset_kept}
use Rattle.rv_hart.specs.Clauses.{IsFitRecord}
use Rattle.rv_hart.specs.Whole.{record_of}
use Rattle.tpl_ast.specs.declared.template.Atom.{Atom}
use Rattle.tpl_ast.specs.declared.template.Atom.TheVariants as atoms
use Rattle.tpl_ast.specs.declared.template.Wish.{Wish}
use Rattle.tpl_ast.specs.Leaves.{atoms_of, is_name_below}
use Rattle.tpl_admit.specs.declared.dropped.Dropped.{Dropped}
use Rattle.tpl_admit.specs.Admitting.{false_atoms, fixes_outcome, is_drop, is_excused, is_unfetched, numbered, unmet_atoms, unretired}
use Rattle.tpl_admit.specs.Truth.{holds, is_among}
use Rattle.tpl_admit.specs.Variables.{Moment, outcome_in, value_of}
use Rattle.part_laws.specs.Partial.{Partial}
use Rattle.part_machine.specs.Whole.{Whole, records_of}
use Rattle.part_state.specs.Meaning.{IsTest, partial_of}
use Rattle.fd_prob.specs.declared.problem.Assignment.{Assignment}
use Rattle.fd_solve.specs.declared.answers.LeafAnswer.{LeafAnswer}
use Rattle.fd_solve.specs.declared.answers.Solved.{Solved}
use Rattle.fd_solve.specs.declared.answers.Solved.TheVariants as answers
use Rattle.leaf_link.specs.Admitted.{BindsName, MetAreTrue, StepsAreFetched, renamed}
use Rattle.leaf_link.specs.Answers.{values_in}
use Rattle.leaf_link.specs.Candidates.{IsCandidate, accesses_in, all_met, is_met, is_named, moment_of, registers_from}
use Rattle.leaf_link.specs.Extras.{IsTurnLeafAnswer}
use Rattle.leaf_link.specs.Firsts.{IsTurnAnswer}
use Rattle.leaf_link.specs.Placing.{AreFourWords, NewWordsAreFour}
use Rattle.leaf_link.specs.Turns.{Turn}
use Rattle.leaf_link.specs.Values.{Values}
use Rattle.leaf_link.specs.Ways.{IsFetched}
use Rattle.turn_laws.specs.Given.{known_at, turn_at}
use Rattle.turn_laws.specs.Laws.{IsStartOn}
use Rattle.turn_laws.proofs.Places.{known}
use Rattle.turn_laws.proofs.Starts.{start_then}
use Rattle.leaf_turn.specs.Answers.{IsFound, new_at}
use Rattle.leaf_turn.specs.Finding.{AnswersAreFound}
use Rattle.leaf_turn.specs.Grounds.{declared_set}
use Rattle.leaf_turn.specs.Wishes.{biases_of, mandatory_of, retires}
use Rattle.gen_search.specs.Search.{Turned.Taken}
use Rattle.gen_turn.specs.Drafts.{Drafted, at_test, turn_of}
use Rattle.gen_turn.specs.Grounds.{IsGround, IsLeafOf}
use Rattle.gen_turn.specs.Turns.{EndsAs, IsAnswered, IsLeafTaken, is_listed, listed_as, moment_at, names_bound, next_bias}
use Rattle.gen_turn.proofs.BoundNames.{IsWishAt, name_bound, name_was, names_kept}
use Rattle.gen_turn.proofs.Filled.{IsFilled, known_filled, registers_past, registers_zero}
use Rattle.gen_turn.proofs.Judged.{any_second, atoms_stay, bias_listed, mandatory_has, mandatory_retires, wish_judged}
use Rattle.gen_turn.proofs.Listing.{listed_between}
use Rattle.gen_turn.proofs.MoreTruth.{IsKnownIn, holds_more}
use Rattle.gen_turn.proofs.SmallValues.{value_small}
use Rattle.gen_turn.proofs.Settling.{found}
use Rattle.gen_turn.proofs.StepDone.{AreListedBehind, IsStepDone, same_taken}
use Rattle.gen_turn.proofs.StepDone as steps
use Rattle.gen_turn.proofs.WordCounts.{four_words, words_in}

-- ---- what the end knows of a test before it

-- the end has the names, the dropped biases and the start of the test, and perhaps more
pub record IsLater (w : Whole) (names : ℕ → Option ℕ) (dropped : List Dropped) (end : Partial) : Type 0 where
  pub named : (n v : ℕ) → slice_index_or w.names n None ≡ Some v → names n ≡ Some v
  pub listed : (test : Dropped → Bool) → list_any test w.dropped ≡ true → list_any test dropped ≡ true
  pub start : IsStartOn (partial_of w) end

-- ---- what a leaf turn does

-- the step was made, and admission finds nothing wrong
pub record IsLeafDone (sets : ℕ → List ℕ) (k : ℕ) (ws : List Wish) (old after : Whole) : Type 0 where
  pub step : IsStepDone sets k ws old after
  pub fetched : is_unfetched step.record_is.outcome ≡ false
  pub admits : (names : ℕ → Option ℕ) (dropped : List Dropped) (end : Partial) (regs : List (Option ℕ)) → IsLater after names dropped end → IsFilled (partial_of old) k (end.start k).places regs
      → unmet_atoms dropped k (length (records_of k old)) (record { done = step.record_is; regs = regs; names = names; others = take k old.traces }) ws ≡ []

-- ---- no atom is false

min_less : (n m : ℕ) → n < m → min n m ≡ n
min_less n m lt = omega (arith, lt)

no_false : (dropped : List Dropped) (hart step : ℕ) (m : Moment) (ws : List Wish) (n0 b0 : ℕ) → n0 + length ws < 2 ^ 31
    → ((w : Wish) (n b : ℕ) → IsWishAt ws n0 b0 w n b → (holds w.atom m || is_excused dropped hart step n w) ≡ true) → false_atoms dropped hart step m n0 ws ≡ []
no_false dropped hart step m [] n0 b0 short good = refl
no_false dropped hart step m (w ∷ ws) n0 b0 short good =
    let next : numbered (n0 + 1) ≡ n0 + 1 = min_less (n0 + 1) (2 ^ 32 - 1) (omega (arith, short)) in
    let rest : false_atoms dropped hart step m (numbered (n0 + 1)) ws ≡ [] =
    ap (λ (n : ℕ). false_atoms dropped hart step m n ws) next ∙ no_false dropped hart step m ws (n0 + 1) (next_bias b0 w) (omega (arith, short)) (λ u n b at. good u n b (inr at)) in
    ap (λ (b : Bool). if b then false_atoms dropped hart step m (numbered (n0 + 1)) ws else n0 ∷ false_atoms dropped hart step m (numbered (n0 + 1)) ws) (good w n0 b0 (inl (refl, refl, refl))) ∙ rest

or_first : (b c : Bool) → b ≡ true → (b || c) ≡ true
or_first b c h = ap (λ (x : Bool). x || c) h

or_second : (b c : Bool) → c ≡ true → (b || c) ≡ true
or_second true c h = refl
or_second false c h = h

named_value : (set : List ℕ) (o : Option ℕ) → is_among set o ≡ true → (x : ℕ) × (o ≡ Some x)
named_value set None h = absurd (cc h)
named_value set (Some x) h = (x, refl)

below_at : (p : Atom → Bool) (ws : List Wish) (n0 b0 : ℕ) (w : Wish) (n b : ℕ) → list_all p (atoms_of ws) ≡ true → IsWishAt ws n0 b0 w n b → p w.atom ≡ true
below_at p [] n0 b0 w n b all at = absurd at
below_at p (u ∷ us) n0 b0 w n b all at =
    let both = and_parts (p u.atom) _ all in
    elim at [ inl here ↦ subst (λ (x : Wish). p x.atom ≡ true) here.0 both.0 | inr later ↦ below_at p us (n0 + 1) (next_bias b0 u) w n b both.1 later ]

met_of : (t : Turn) (m : Moment) (leaf : List Atom) (atom : Atom) → all_met t m leaf ≡ true → HasItem leaf atom → is_met t m atom ≡ true
met_of t m [] atom h i = absurd i
met_of t m (x ∷ leaf) atom h i =
    let both = and_parts (is_met t m x) (all_met t m leaf) h in
    elim i [ inl same ↦ subst (λ (a : Atom). is_met t m a ≡ true) same both.0 | inr later ↦ met_of t m leaf atom both.1 later ]

only_one : (v x : ℕ) → is_in (v ∷ []) x ≡ true → (x == v) ≡ true
only_one v x h = eq-eqb x v (sym (eqb-true v x (first_true (v == x) h)))
  where
    first_true : (b : Bool) → (b || false) ≡ true → b ≡ true
    first_true true h = refl
    first_true false h = absurd (cc h)

registers_same : (f g : Known) (first n : ℕ) → ((place : Place) → f place ≡ g place) → registers_from f first n ≡ registers_from g first n
registers_same f g first zero same = refl
registers_same f g first (suc n) same = λ i. same (Reg first) i ∷ registers_same f g (suc first) n same i

-- ---- what a turn that is taken was made of

module _ (d : Drafted) (k : ℕ) (ws : List Wish) (draws : List ℕ) where
  -- its leaf was answered where the pc leads, and the step of the answer was taken
  pub record IsTurn (after : Whole) : Type 0 where
    pub walk : List Entry
    pub pa : ℕ
    pub fetched : IsFetched (turn_of d (mandatory_of ws) k) walk pa
    pub answer : LeafAnswer
    pub is : IsTurnLeafAnswer (turn_of d (mandatory_of ws) k) pa (mandatory_of ws) (biases_of ws) draws d.nodes answer
    pub values : Assignment
    pub found : answer.solved ≡ answers.Found values
    pub found_is : IsFound k d.now pa (values_in values)
    pub taken : IsLeafTaken k ws answer.dropped (values_in values) d.now after

pub answer_made : AnswersAreFound → (d : Drafted) (k : ℕ) (g : IsGround d k) (ws : List Wish) (built : IsLeafOf d.template ws) (draws : List ℕ) (e : Drafted) → IsAnswered d k ws draws (Taken e) → IsTurn d k ws draws e.now
answer_made found_law d k g ws built draws e a = go a.answer.solved refl a.ends
  where
    go : (s : Solved) → a.answer.solved ≡ s → EndsAs d k ws a.answer.dropped s (Taken e) → IsTurn d k ws draws e.now
    go (answers.Found x) is ends = record {
      walk = a.walk;
      pa = a.pa;
      fetched = a.leads;
      answer = a.answer;
      is = a.is;
      values = x;
      found = is;
      found_is = found d k g ws built found_law draws (Taken e) a x is;
      taken = subst (IsLeafTaken k ws a.answer.dropped (values_in x) d.now) (sym (ap (λ (f : Drafted). f.now) (same_taken e (at_test d ends.0) ends.2))) ends.1;
    }
    go answers.NoneFits is ends = absurd (cc ends)
    go answers.Spent is ends = absurd (cc ends)

-- ---- what it did

module _ (met_are_true : MetAreTrue) (are_fetched : StepsAreFetched) (words_are_few : NewWordsAreFour) (d : Drafted) (k : ℕ) (ws : List Wish) (ground : IsGround d k) (built : IsLeafOf d.template ws) (draws : List ℕ) (after : Whole)
    (turn : IsTurn d k ws draws after) where
  abbrev old : Whole
  old = d.now

  abbrev t : Turn
  t = turn_of d (mandatory_of ws) k

  abbrev pa : ℕ
  pa = turn.pa

  abbrev x : Values
  x = values_in turn.values

  abbrev l : IsLeafTaken k ws turn.answer.dropped x old after
  l = turn.taken

  abbrev given : Whole
  given = l.taken.given

  abbrev es : List (Place × ℕ)
  es = l.taken.places.places

  abbrev log : List Entry
  log = l.taken.log

  abbrev change : Change
  change = l.taken.change

  test_given : IsTest given
  test_given = steps.test_given k ws turn.answer.dropped x old after ground.test ground.hart ground.words l

  hart_given : k < length given.harts
  hart_given = steps.hart_given k ws turn.answer.dropped x old after ground.test ground.hart ground.words l

  start_step : IsStartOn (partial_of given) (partial_of after)
  start_step = steps.start_step k ws turn.answer.dropped x old after ground.test ground.hart ground.words l

  names_after : after.names ≡ names_bound (λ v. value_of v (moment_at k x l.done old)) turn.answer.dropped 0 ws old.names
  names_after = steps.names_after k ws turn.answer.dropped x old after ground.test ground.hart ground.words l

  dropped_after : after.dropped ≡ old.dropped ++ map (listed_as k (length (records_of k old)) ws) turn.answer.dropped
  dropped_after = steps.dropped_after k ws turn.answer.dropped x old after ground.test ground.hart ground.words l

  given_words : (i v : ℕ) → i < 32 → known_at k given (Reg i) ≡ Some v → v < 2 ^ 32
  given_words = steps.given_words k ws turn.answer.dropped x old after ground.test ground.hart ground.words l

  filled_given : (end : Partial) (regs : List (Option ℕ)) → IsStartOn (partial_of given) end → IsFilled (partial_of old) k (end.start k).places regs → IsFilled (partial_of given) k (end.start k).places regs
  filled_given = steps.filled_given k ws turn.answer.dropped x old after ground.test ground.hart ground.words l

  dropped_to : AreListedBehind k old after.dropped
  dropped_to harts few small = (
    map (listed_as k (length (records_of k old)) ws) turn.answer.dropped,
    dropped_after,
    listed_between harts k (length (records_of k old)) ws few small built.short t pa draws d.nodes (mandatory_of ws) (record { atoms = turn.is.0; dropped = turn.answer.dropped }) turn.is.1,
  )

  -- the fetched word, two entries and that of the data access alone are new

  few_words : words_in es ≤ 4
  few_words = four_words k pa (new_at k old x) es old ground.test ground.hart aligned four l.taken.places.can (λ a u h. sym (l.taken.places.listed (Word a)) ∙ h)
    where
      aligned : turn.pa % 4 ≡ 0
      aligned = offset_kept _ _ _ _ _ turn.found_is.walk turn.pa turn.found_is.fetched.translates ∙ turn.found_is.fetched.aligned

      four : AreFourWords (new_at k old x) turn.pa
      four = words_are_few (turn_at turn.found_is.setting turn.found_is.feet k old) turn.found_is.walk turn.pa turn.found_is.leaf (new_at k old x) turn.found_is.fetched turn.found_is.candidate

  pub few_new : length after.words ≤ length old.words + 4
  few_new = steps.words_after k ws turn.answer.dropped x old after ground.test ground.hart ground.words l few_words

  -- the candidate

  abbrev atoms_kept : List Atom
  atoms_kept = turn.is.0

  least : IsTurnAnswer t pa atoms_kept draws d.nodes (answers.Found turn.values)
  least = subst (IsTurnAnswer t pa atoms_kept draws d.nodes) turn.found turn.is.2

  abbrev cand : IsCandidate t atoms_kept (new_at k old x)
  cand = least.1.is

  same_plays : Does log change ≡ Does cand.log cand.change
  same_plays = sym l.taken.plays ∙ cand.is.plays

  same_log : log ≡ cand.log
  same_log = ap (λ (a : Answer Entry Change). elim a [ Does xs c ↦ xs | Missing place ↦ log | Nowhere ↦ log ]) same_plays

  same_change : change ≡ cand.change
  same_change = ap (λ (a : Answer Entry Change). elim a [ Does xs c ↦ c | Missing place ↦ change | Nowhere ↦ change ]) same_plays

  abbrev m0 : Moment
  m0 = moment_of t cand.log cand.change

  done_is : m0.done ≡ l.done
  done_is = sym (l.taken.record_is ∙ ap (λ (xs : List Entry). record_of t.fixed (accesses_in xs) change) same_log ∙ ap (λ (c : Change). record_of t.fixed (accesses_in cand.log) c) same_change)

  known_then : (place : Place) → enlarged t.known (started t.known cand.log) place ≡ enlarged (known_at k old) (new_at k old x) place
  known_then place = ap (λ (o : Option ℕ). or_else (t.known place) o) (sym (cand.is.exact place))

  regs_are : m0.regs ≡ registers_from (enlarged (known_at k old) (new_at k old x)) 0 32
  regs_are = registers_same _ _ 0 32 known_then

  moment_is : m0 ≡ moment_at k x l.done old
  moment_is =
      ap (λ (r : Record). record { done = r; regs = m0.regs; names = t.names; others = t.others }) done_is
      ∙ ap (λ (rs : List (Option ℕ)). record { done = l.done; regs = rs; names = t.names; others = t.others }) regs_are

  known_moment : (i : ℕ) → i < 32 → enlarged t.known (started t.known cand.log) (Reg i) ≡ known_at k given (Reg i)
  known_moment i small =
      known_then (Reg i)
      ∙ ap (λ (o : Option ℕ). or_else (known_at k old (Reg i)) o) (sym (l.taken.places.listed (Reg i)))
      ∙ sym (known k es old ground.test ground.hart l.taken.places.can (Reg i) small)
      ∙ ap (λ (w : Whole). known_at k w (Reg i)) (sym l.taken.places.is)

  moment_words : (i v : ℕ) → slice_index_or m0.regs i None ≡ Some v → v < 2 ^ 32
  moment_words i v h = elim (cases_lt i 32) [
    | inl small ↦ given_words i v small (sym (registers_zero (enlarged t.known (started t.known cand.log)) 32 i small ∙ known_moment i small) ∙ h)
    | inr past ↦ absurd (cc (sym (registers_past (enlarged t.known (started t.known cand.log)) 0 32 i past) ∙ h))
  ]

  was_fetched : is_unfetched l.done.outcome ≡ false
  was_fetched = ap (λ (r : Record). is_unfetched r.outcome) (sym done_is) ∙ are_fetched t turn.walk pa atoms_kept (new_at k old x) turn.fetched cand

  -- what the leaf asks for is true

  module _ (names : ℕ → Option ℕ) (dropped : List Dropped) (end : Partial) (regs : List (Option ℕ)) (later : IsLater after names dropped end) (filled : IsFilled (partial_of old) k (end.start k).places regs) where
    abbrev m : Moment
    m = record { done = l.done; regs = regs; names = names; others = take k old.traces }

    named_before : (n v : ℕ) → t.names n ≡ Some v → names n ≡ Some v
    named_before n v h = later.named n v
        (ap (λ (ns : List (Option ℕ)). slice_index_or ns n None) names_after
        ∙ names_kept (λ u. value_of u (moment_at k x l.done old)) turn.answer.dropped 0 ws old.names n v h)

    known_regs : (i : ℕ) → IsKnownIn (slice_index_or m0.regs i None) (slice_index_or regs i None)
    known_regs =
        known_filled k given (end.start k).places regs (enlarged t.known (started t.known cand.log)) test_given hart_given
        known_moment
        (filled_given end regs (start_then (partial_of given) (partial_of after) end start_step later.start) filled)

    true_then : (atom : Atom) → holds atom (renamed m0 names) ≡ true → holds atom m ≡ true
    true_then atom h =
        holds_more l.done m0.regs regs names (take k old.traces) known_regs atom
        (ap (λ (r : Record). holds atom (record { done = r; regs = m0.regs; names = names; others = take k old.traces })) (sym done_is)
        ∙ h)

    binds : (w : Wish) (n b : ℕ) (atom : Atom) → w.atom ≡ atom → IsWishAt ws 0 0 w n b → (w.prefer && is_listed turn.answer.dropped b) ≡ false → is_met t m0 atom ≡ true → BindsName t names m0 atom
    binds w n b (atoms.Is v name) is at kept met = λ none.
        let among : is_among (t.sets name) (value_of v m0) ≡ true = ap (λ (o : Option ℕ). is_named o (t.sets name) (value_of v m0)) (sym none) ∙ met in
        let value = named_value (t.sets name) (value_of v m0) among in
        let below : is_name_below (length d.template.names) (atoms.Is v name) ≡ true = subst (λ (a : Atom). is_name_below (length d.template.names) a ≡ true) is (below_at (is_name_below (length d.template.names)) ws 0 0 w n b built.below at) in
        let small : name < length old.names = subst (λ (i : ℕ). name < i) (sym ground.names) (ltb-true name (length d.template.names) below) in
        later.named name value.0
        (ap (λ (ns : List (Option ℕ)). slice_index_or ns name None) names_after
        ∙ name_bound (λ u. value_of u (moment_at k x l.done old)) turn.answer.dropped w n b name value.0 v is kept (ap (value_of v) (sym moment_is) ∙ value.1) ws 0 0 old.names at built.once small
        none)
        ∙ sym value.1
    binds w n b (atoms.In v set) is at kept met = tt
    binds w n b (atoms.NotIn v set) is at kept met = tt
    binds w n b (atoms.Same v u) is at kept met = tt
    binds w n b (atoms.Differ v u) is at kept met = tt
    binds w n b atoms.Taken is at kept met = tt
    binds w n b atoms.NotTaken is at kept met = tt
    binds w n b atoms.Shared is at kept met = tt

    kept_true : (w : Wish) (n b : ℕ) → IsWishAt ws 0 0 w n b → (w.prefer && is_listed turn.answer.dropped b) ≡ false → HasItem atoms_kept w.atom → holds w.atom m ≡ true
    kept_true w n b at kept has_atom =
        let met : is_met t m0 w.atom ≡ true = met_of t m0 atoms_kept w.atom cand.is.meets.atoms has_atom in
        true_then w.atom (met_are_true t m0 names named_before w.atom (binds w n b w.atom refl at kept met) met)

    good : (w : Wish) (n b : ℕ) → IsWishAt ws 0 0 w n b → (holds w.atom m || is_excused dropped k (length (records_of k old)) n w) ≡ true
    good w n b at = go w.prefer refl
      where
        from_end : list_any (is_drop k (length (records_of k old)) n) (map (listed_as k (length (records_of k old)) ws) turn.answer.dropped) ≡ true → list_any (is_drop k (length (records_of k old)) n) dropped ≡ true
        from_end h = later.listed (is_drop k (length (records_of k old)) n)
            (ap (list_any (is_drop k (length (records_of k old)) n)) dropped_after ∙ any_second (is_drop k (length (records_of k old)) n) old.dropped (map (listed_as k (length (records_of k old)) ws) turn.answer.dropped) h)

        and_none : (c : Bool) → (c && false) ≡ false
        and_none true = refl
        and_none false = refl

        judged : (b1 : Bool) → is_listed turn.answer.dropped b ≡ b1 → w.prefer ≡ true → (holds w.atom m || is_excused dropped k (length (records_of k old)) n w) ≡ true
        judged true listed prefer =
            or_second (holds w.atom m) _ (ap (λ (c : Bool). c && list_any (is_drop k (length (records_of k old)) n) dropped) prefer ∙ from_end (bias_listed k (length (records_of k old)) ws turn.answer.dropped w n b at prefer listed))
        judged false listed prefer = elim (wish_judged t pa draws d.nodes ws 0 0 _ _ turn.is.1 w n b at prefer) [
          | inl was ↦ absurd (cc (sym listed ∙ was))
          | inr has_atom ↦ or_first (holds w.atom m) _ (kept_true w n b at (ap (λ (c : Bool). w.prefer && c) listed ∙ and_none w.prefer) has_atom)
        ]

        go : (p : Bool) → w.prefer ≡ p → (holds w.atom m || is_excused dropped k (length (records_of k old)) n w) ≡ true
        go true is = judged (is_listed turn.answer.dropped b) refl is
        go false is =
            or_first (holds w.atom m) _
            (kept_true w n b at (ap (λ (c : Bool). c && is_listed turn.answer.dropped b) is) (atoms_stay t pa draws d.nodes 0 (biases_of ws) _ _ turn.is.1 w.atom (mandatory_has ws w n b at is)))

    retired : unretired m ws ≡ []
    retired = go (list_any fixes_outcome ws) refl
      where
        go : (b : Bool) → list_any fixes_outcome ws ≡ b → (if list_any fixes_outcome ws || outcome_in l.done.outcome == 255 then [] else numbered (length ws) ∷ []) ≡ []
        go true is = ap (λ (c : Bool). if c || outcome_in l.done.outcome == 255 then [] else numbered (length ws) ∷ []) is
        go false is =
            let has_atom : HasItem atoms_kept retires = atoms_stay t pa draws d.nodes 0 (biases_of ws) _ _ turn.is.1 retires (mandatory_retires ws is) in
            let met : is_met t m0 retires ≡ true = met_of t m0 atoms_kept retires cand.is.meets.atoms has_atom in
            let here : (outcome_in l.done.outcome == 255) ≡ true = only_one 255 (outcome_in l.done.outcome) (ap (λ (r : Record). is_in (255 ∷ []) (outcome_in r.outcome)) (sym done_is) ∙ met) in
            ap (λ (c : Bool). if c || outcome_in l.done.outcome == 255 then [] else numbered (length ws) ∷ []) is
            ∙ ap (λ (c : Bool). if c then [] else numbered (length ws) ∷ []) here

    admitted : unmet_atoms dropped k (length (records_of k old)) m ws ≡ []
    admitted =
        ap (λ (ns : List ℕ). ns ++ unretired m ws) (no_false dropped k (length (records_of k old)) m ws 0 0 (let short = built.short in omega (arith, short)) good)
        ∙ retired

  -- an atom of a wish that isn't dropped is met
  wish_met : (w : Wish) (n b : ℕ) → IsWishAt ws 0 0 w n b → (w.prefer && is_listed turn.answer.dropped b) ≡ false → is_met t m0 w.atom ≡ true
  wish_met w n b at kept = met_of t m0 atoms_kept w.atom cand.is.meets.atoms (go w.prefer refl kept)
    where
      go : (p : Bool) → w.prefer ≡ p → (p && is_listed turn.answer.dropped b) ≡ false → HasItem atoms_kept w.atom
      go true is h = elim (wish_judged t pa draws d.nodes ws 0 0 _ _ turn.is.1 w n b at is) [
        | inl was ↦ absurd (cc (sym was ∙ h))
        | inr has_atom ↦ has_atom
      ]
      go false is h = atoms_stay t pa draws d.nodes 0 (biases_of ws) _ _ turn.is.1 w.atom (mandatory_has ws w n b at is)

  name_value : (n v : ℕ) → slice_index_or after.names n None ≡ Some v → (slice_index_or old.names n None ≡ Some v) ⊎ ((v < 2 ^ 32) × (is_in (t.sets n) v ≡ true))
  name_value n v h = elim (name_was (λ u. value_of u (moment_at k x l.done old)) turn.answer.dropped ws 0 0 old.names n v (ap (λ (ns : List (Option ℕ)). slice_index_or ns n None) (sym names_after) ∙ h)) [
    | inl was ↦ inl was
    | inr by ↦
        let value : value_of by.var m0 ≡ Some v = ap (value_of by.var) moment_is ∙ by.value in
        let met : is_met t m0 (atoms.Is by.var n) ≡ true = ap (is_met t m0) (sym by.names) ∙ wish_met by.wish by.place by.bias by.at by.kept in
        go (t.names n) refl (ap (λ (o : Option ℕ). is_named (t.names n) (t.sets n) o) (sym value) ∙ met) (value_small m0 (subst IsFitRecord (sym done_is) l.fit) moment_words by.var v value)
  ]
    where
      go : (o : Option ℕ) → t.names n ≡ o → is_named o (t.sets n) (Some v) ≡ true → v < 2 ^ 32 → (slice_index_or old.names n None ≡ Some v) ⊎ ((v < 2 ^ 32) × (is_in (t.sets n) v ≡ true))
      go (Some u) is met small = inl (is ∙ ap (λ (i : ℕ). Some i) (sym (eqb-true v u met)))
      go None is met small = inr (small, met)

  abbrev done : IsStepDone (λ n. declared_set (slice_get d.template.names n)) k ws old after
  done = steps.step_done k ws turn.answer.dropped x old after ground.test ground.hart ground.words l (λ n. declared_set (slice_get d.template.names n)) few_words name_value dropped_to

  same_record : done.record_is ≡ l.done
  same_record = steps.record_done k ws turn.answer.dropped x old after ground.test ground.hart ground.words l (λ n. declared_set (slice_get d.template.names n)) few_words name_value dropped_to

  pub leaf_done : IsLeafDone (λ n. declared_set (slice_get d.template.names n)) k ws old after
  leaf_done = record {
    step = done;
    fetched = ap (λ (r : Record). is_unfetched r.outcome) same_record ∙ was_fetched;
    admits = λ names dropped end regs later filled.
        ap (λ (r : Record). unmet_atoms dropped k (length (records_of k old)) (record { done = r; regs = regs; names = names; others = take k old.traces }) ws) same_record ∙ admitted names dropped end regs later filled;
  }
