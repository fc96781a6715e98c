-- A fetch whose walk lacks no entry: it starts nothing, and leads where the walk does, if that races with nothing.
use Rattle.std.proofs.Common.{◌≡◌, ℕ, ◌%◌, ◌<◌, ◌≤◌, ◌&&◌, ◌⊎◌, not, length, Bool, true, false, eqb, if◌then◌else◌, List, [], ◌∷◌, map, Option, Some, None, refl, sym, ap, ◌∙◌, subst, inl, inr, arith}
use Rattle.std.specs.List.{list_any}
use Rattle.std.proofs.lemmas.Bool.{and_from, and_parts}
use Rattle.rv_csr.specs.declared.cause.Cause.{Cause}
use Rattle.rv_script.specs.declared.access.Access.{Access}
use Rattle.rv_script.specs.declared.access.Role.TheVariants.{Walk}
use Rattle.rv_script.specs.Bytes.{covers}
use Rattle.rv_script.specs.declared.place.Place.{Place}
use Rattle.rv_script.specs.Folds.{Answer, Answer.Does, Answer.Missing as Lacks, Answer.Nowhere, Entry, Known, Teller, by_known, entry_of, noted, notes_of, on_note, on_told, play, prefixed}
use Rattle.rv_script.specs.Lists.{HasItem}
use Rattle.rv_script.specs.Logs.{answer_told, by_answers, enlarged, entry_label, entry_place, found, if_new, labelled, log_of, new_value, or_else, or_given, same_place, started, where_unknown}
use Rattle.rv_script.specs.Labels.{label_number}
use Rattle.rv_script.specs.Script.{Label, Label.FetchRoot, Label.FetchSecond, Question, Script, Script.Ask, Script.Outside, Script.Done, access_of, place_of, told as answered}
use Rattle.rv_script.proofs.Plays.{play_same, same_is, told}
use Rattle.sv_walk.specs.declared.ending.WalkEnd.{WalkEnd}
use Rattle.sv_walk.specs.declared.ending.WalkEnd.TheVariants.{Fault, Outside as EndsOutside}
use Rattle.sv_walk.specs.Clauses.{ended, entry_access}
use Rattle.sv_walk.specs.Translation.{Reached, At, Fails}
use Rattle.fetch_ways.specs.Ways.{is_free_walk, walk_at}
use Rattle.foot_map.specs.declared.touch.Touch.{Touch}
use Rattle.foot_map.specs.Races.{IsFootprint, breaks}
use Rattle.tpl_ast.specs.declared.template.Template.{Template}
use Rattle.tpl_admit.specs.Races.{footprints_of}
use Rattle.part_machine.specs.Whole.{Whole, fixed_in, hart_of, records_of}
use Rattle.part_state.specs.Meaning.{IsTest}
use Rattle.fd_prob.specs.declared.problem.Assignment.{Assignment}
use Rattle.fd_prob.specs.declared.slot.Slot.{Slot}
use Rattle.fd_prob.specs.declared.slot.Slot.TheVariants as slots
use Rattle.fd_prob.specs.Order.{rank}
use Rattle.fd_solve.specs.declared.answers.Solved.TheVariants as answers
use Rattle.leaf_link.specs.Answers.{values_in}
use Rattle.leaf_link.specs.Fetches.{IsFetchCandidate, fetch_places, fetch_script, fetch_values}
use Rattle.leaf_link.specs.FetchAnswers.{FetchPrecedes, IsFetchAnswer, fetch_pivot, fetch_space}
use Rattle.leaf_link.specs.Turns.{Turn, is_free, is_free_access, is_free_entry}
use Rattle.leaf_link.specs.Values.{Values, given_by}
use Rattle.turn_laws.specs.Entered.{walk_script, walked_at}
use Rattle.turn_laws.specs.Given.{Setting, known_at, turn_at}
use Rattle.leaf_turn.specs.Entering.{IsEnteredAs, are_free_walks}
use Rattle.leaf_turn.specs.declared.entering.Entered.TheVariants as entered
use Rattle.leaf_turn.specs.Grounds.{IsSettingOf}
use Rattle.leaf_turn.proofs.Freedom.{same_races}

-- ---- one play, with its accesses and with all that it asks

-- it is played to the same end with all that it asks, of which these are the accesses
record IsLogged (s : Script Reached) (tell : Teller) (xs : List Access) (end : Reached) : Type 0 where
  pub log : List Entry
  pub plays : answer_told tell s ≡ Does log end
  pub notes : notes_of access_of log ≡ xs

logged : (s : Script Reached) (tell : Teller) (xs : List Access) (end : Reached) → play access_of tell s ≡ Does xs end → IsLogged s tell xs end
logged (Done a) tell xs end h = record { log = []; plays = (let same : a ≡ end = cc h in ap (λ (r : Reached). Does [] r) same); notes = cc h }
logged Outside tell xs end h = absurd (cc h)
logged (Ask q next) tell xs end h = go (tell q) refl (λ v ys b rest. logged (next (answered q v)) tell ys b rest) h
  where
    step : (v : ℕ) → tell q ≡ Some v → ((u : ℕ) (ys : List Access) (b : Reached) → play access_of tell (next (answered q u)) ≡ Does ys b → IsLogged (next (answered q u)) tell ys b) → (o : Option Access) → access_of q v ≡ o → (r : Answer Access Reached) → play access_of tell (next (answered q v)) ≡ r → noted o r ≡ Does xs end → IsLogged (Ask q next) tell xs end
    step v is more None acc (Does ys b) rest h =
        let l = more v ys b rest in
        let same : b ≡ end = cc h in
        let e : Entry = record { question = q; value = v } in
        record {
          log = e ∷ l.log;
          plays =
              ap (λ (o : Option ℕ). on_told o (place_of q) (λ u. noted (entry_of q u) (play entry_of tell (next (answered q u))))) is
              ∙ ap (λ (r : Answer Entry Reached). prefixed (e ∷ []) r) l.plays ∙ ap (λ (r : Reached). Does (e ∷ l.log) r) same;
          notes = ap (λ (o : Option Access). on_note o (notes_of access_of l.log)) acc ∙ l.notes ∙ cc h;
        }
    step v is more (Some x) acc (Does ys b) rest h =
        let l = more v ys b rest in
        let same : b ≡ end = cc h in
        let e : Entry = record { question = q; value = v } in
        record {
          log = e ∷ l.log;
          plays =
              ap (λ (o : Option ℕ). on_told o (place_of q) (λ u. noted (entry_of q u) (play entry_of tell (next (answered q u))))) is
              ∙ ap (λ (r : Answer Entry Reached). prefixed (e ∷ []) r) l.plays ∙ ap (λ (r : Reached). Does (e ∷ l.log) r) same;
          notes = ap (λ (o : Option Access). on_note o (notes_of access_of l.log)) acc ∙ ap (λ (ys : List Access). x ∷ ys) l.notes ∙ cc h;
        }
    step v is more None acc (Lacks place) rest h = absurd (cc h)
    step v is more None acc Nowhere rest h = absurd (cc h)
    step v is more (Some x) acc (Lacks place) rest h = absurd (cc h)
    step v is more (Some x) acc Nowhere rest h = absurd (cc h)

    go : (o : Option ℕ) → tell q ≡ o → ((u : ℕ) (ys : List Access) (b : Reached) → play access_of tell (next (answered q u)) ≡ Does ys b → IsLogged (next (answered q u)) tell ys b) → on_told o (place_of q) (λ v. noted (access_of q v) (play access_of tell (next (answered q v)))) ≡ Does xs end → IsLogged (Ask q next) tell xs end
    go None is more h = absurd (cc h)
    go (Some v) is more h = step v is more (access_of q v) refl (play access_of tell (next (answered q v))) refl h

-- where there is no step on what is known, there is none on more
nowhere_else : (s : Script Reached) (tell other : Teller) → ((q : Question) (v : ℕ) → tell q ≡ Some v → other q ≡ Some v) → play access_of tell s ≡ Nowhere → answer_told other s ≡ Nowhere
nowhere_else (Done a) tell other more h = absurd (cc h)
nowhere_else Outside tell other more h = refl
nowhere_else (Ask q next) tell other more h = go (tell q) refl (λ v none. nowhere_else (next (answered q v)) tell other more none) h
  where
    unnoted : (o : Option Access) (r : Answer Access Reached) → noted o r ≡ Nowhere → r ≡ Nowhere
    unnoted o Nowhere h = refl
    unnoted None (Does xs a) h = absurd (cc h)
    unnoted (Some x) (Does xs a) h = absurd (cc h)
    unnoted None (Lacks place) h = absurd (cc h)
    unnoted (Some x) (Lacks place) h = absurd (cc h)

    go : (o : Option ℕ) → tell q ≡ o → ((v : ℕ) → play access_of tell (next (answered q v)) ≡ Nowhere → answer_told other (next (answered q v)) ≡ Nowhere) → on_told o (place_of q) (λ v. noted (access_of q v) (play access_of tell (next (answered q v)))) ≡ Nowhere → answer_told other (Ask q next) ≡ Nowhere
    go None is later h = absurd (cc h)
    go (Some v) is later h =
        ap (λ (o : Option ℕ). on_told o (place_of q) (λ u. noted (entry_of q u) (play entry_of other (next (answered q u))))) (more q v is)
        ∙ ap (λ (r : Answer Entry Reached). prefixed (record { question = q; value = v } ∷ []) r) (later v (unnoted (access_of q v) (play access_of tell (next (answered q v))) h))

-- ---- freedom

in_note : (o : Option Access) (xs : List Access) (x : Access) → HasItem xs x → HasItem (on_note o xs) x
in_note None xs x i = i
in_note (Some y) xs x i = inr i

free_entries : (t : Turn) (log : List Entry) → ((x : Access) → HasItem (notes_of access_of log) x → is_free t x ≡ true) → (e : Entry) → HasItem log e → is_free_entry t e ≡ true
free_entries t [] all e i = absurd i
free_entries t (f ∷ log) all e i = elim i [
  | inl same ↦ subst (λ (g : Entry). is_free_entry t g ≡ true) same (go (access_of f.question f.value) all)
  | inr later ↦ free_entries t log (λ x j. all x (in_note (access_of f.question f.value) (notes_of access_of log) x j)) e later
]
  where
    go : (o : Option Access) → ((x : Access) → HasItem (on_note o (notes_of access_of log)) x → is_free t x ≡ true) → is_free_access t o ≡ true
    go None all = refl
    go (Some x) all = all x (inl refl)

free_accesses : (t : Turn) (log : List Entry) → ((e : Entry) → HasItem log e → is_free_entry t e ≡ true) → (x : Access) → HasItem (notes_of access_of log) x → is_free t x ≡ true
free_accesses t [] all x i = absurd i
free_accesses t (f ∷ log) all x i = go (access_of f.question f.value) (all f (inl refl)) (λ j. free_accesses t log (λ e u. all e (inr u)) x j) i
  where
    go : (o : Option Access) → is_free_access t o ≡ true → (HasItem (notes_of access_of log) x → is_free t x ≡ true) → HasItem (on_note o (notes_of access_of log)) x → is_free t x ≡ true
    go None free rest i = rest i
    go (Some y) free rest i = elim i [
      | inl same ↦ subst (λ (z : Access). is_free t z ≡ true) same free
      | inr later ↦ rest later
    ]

-- the entries that a walk read
each_free : (t : Turn) (feet : List Touch) (hart : ℕ) (ptes : List (ℕ × ℕ)) → ((addr : ℕ) → is_free t (walk_at addr) ≡ is_free_walk feet hart addr) → are_free_walks feet hart ptes ≡ true → (x : Access) → HasItem (map entry_access ptes) x → is_free t x ≡ true
each_free t feet hart [] same h x i = absurd i
each_free t feet hart (p ∷ ptes) same h x i =
    let both = and_parts (is_free_walk feet hart p.0) (are_free_walks feet hart ptes) h in
    elim i [
      | inl is ↦ subst (λ (z : Access). is_free t z ≡ true) is (same p.0 ∙ both.0)
      | inr later ↦ each_free t feet hart ptes same both.1 x later
    ]

all_free : (t : Turn) (feet : List Touch) (hart : ℕ) (ptes : List (ℕ × ℕ)) → ((addr : ℕ) → is_free t (walk_at addr) ≡ is_free_walk feet hart addr) → ((x : Access) → HasItem (map entry_access ptes) x → is_free t x ≡ true) → are_free_walks feet hart ptes ≡ true
all_free t feet hart [] same all = refl
all_free t feet hart (p ∷ ptes) same all = and_from (is_free_walk feet hart p.0) (are_free_walks feet hart ptes) (sym (same p.0) ∙ all (entry_access p) (inl refl)) (all_free t feet hart ptes same (λ x i. all x (inr i)))

-- ---- a walk over known entries

-- the assignment of a fetch that starts nothing
abbrev pub zeros : Assignment
zeros = record { values = 0 ∷ 0 ∷ 0 ∷ 0 ∷ 0 ∷ 0 ∷ 0 ∷ 0 ∷ 0 ∷ 0 ∷ 0 ∷ 0 ∷ 0 ∷ 0 ∷ [] }

some_none : (v : ℕ) → Some v ≡ None → ⊥
some_none v h = absurd (cc h)

same_ends : (log other : List Entry) (end there : Reached) → Does log end ≡ Does other there → (log ≡ other) × (end ≡ there)
same_ends log other end there h = (cc h, cc h)

does_nowhere : (log : List Entry) (end : Reached) → Nowhere ≡ Does log end → ⊥
does_nowhere log end h = absurd (cc h)

module _ (t : Turn) where
  abbrev AreKnown : List Entry → Type 0
  AreKnown es = (e : Entry) → HasItem es e → t.known (entry_place e) ≡ Some e.value

  none_found : (es : List Entry) (place : Place) → AreKnown es → t.known place ≡ None → found es place ≡ None
  none_found [] place known none = refl
  none_found (e ∷ es) place known none = go (same_place (entry_place e) place) refl (none_found es place (λ f i. known f (inr i)) none)
    where
      go : (b : Bool) → same_place (entry_place e) place ≡ b → found es place ≡ None → (if b then Some e.value else found es place) ≡ None
      go true same rest = absurd (some_none e.value (sym (known e (inl refl)) ∙ ap t.known (same_is (entry_place e) place same) ∙ none))
      go false same rest = rest

  none_started : (es : List Entry) (place : Place) → AreKnown es → started t.known es place ≡ None
  none_started es place known = go (t.known place) refl
    where
      go : (o : Option ℕ) → t.known place ≡ o → where_unknown o (found es place) ≡ None
      go (Some v) is = refl
      go None is = none_found es place known is

  none_new : (es : List Entry) (label : Label) → AreKnown es → new_value t.known (labelled es label) ≡ 0
  none_new [] label known = refl
  none_new (e ∷ es) label known = go (eqb (label_number (entry_label e)) (label_number label)) (none_new es label (λ f i. known f (inr i)))
    where
      go : (b : Bool) → new_value t.known (labelled es label) ≡ 0 → new_value t.known (if b then Some e else labelled es label) ≡ 0
      go true rest = ap (λ (o : Option ℕ). if_new o e.value) (known e (inl refl))
      go false rest = rest

  module _ (log : List Entry) (end : Reached) (plays : answer_told (by_known t.known) (fetch_script t) ≡ Does log end) where
    are_known : AreKnown log
    are_known e i = told (fetch_script t) (by_known t.known) log end plays e i

    by_new : (new : Known) → answer_told (by_known (enlarged t.known new)) (fetch_script t) ≡ Does log end
    by_new new = play_same (fetch_script t) (by_known t.known) (by_known (enlarged t.known new)) log end plays (λ e i. ap (λ (o : Option ℕ). or_else o (new (entry_place e))) (are_known e i))

    by_given : (x : Values) → answer_told (by_answers t.known (given_by x)) (fetch_script t) ≡ Does log end
    by_given x = play_same (fetch_script t) (by_known t.known) (by_answers t.known (given_by x)) log end plays (λ e i. ap (λ (o : Option ℕ). or_given o (given_by x (entry_label e))) (are_known e i))

    pub nothing_placed : (x : Values) (place : Place) → fetch_places t x place ≡ None
    nothing_placed x place = ap (λ a. started t.known (log_of a) place) (by_given x) ∙ none_started log place are_known

    all_zero : (s : Slot) → values_in zeros s ≡ fetch_values t log s
    all_zero slots.Op = refl
    all_zero slots.Rs1 = refl
    all_zero slots.Rs2 = refl
    all_zero slots.Imm = refl
    all_zero slots.Rd = refl
    all_zero slots.Csr = refl
    all_zero slots.Ea = refl
    all_zero slots.A = refl
    all_zero slots.B = refl
    all_zero slots.FirstPte = sym (none_new log FetchRoot are_known)
    all_zero slots.SecondPte = sym (none_new log FetchSecond are_known)
    all_zero slots.DataWord = refl
    all_zero slots.OldCsr = refl
    all_zero slots.Vector = refl

    same_log : (new : Known) (w : IsFetchCandidate t new) → (log ≡ w.log) × (end ≡ At w.pa)
    same_log new w = same_ends log w.log end (At w.pa) (sym (by_new new) ∙ w.plays)

    not_before : (draws : List ℕ) (other : List Entry) → log ≡ other → FetchPrecedes t draws (fetch_values t other) (fetch_values t log) → ⊥
    not_before draws other same before =
        let less = subst (λ (l : List Entry). rank (fetch_pivot t draws before.0) (fetch_values t l before.0) < rank (fetch_pivot t draws before.0) (fetch_values t log before.0)) (sym same) before.2 in
        omega (arith, less)

    pub settled_at : (pa : ℕ) → end ≡ At pa → ((e : Entry) → HasItem log e → is_free_entry t e ≡ true) → (draws : List ℕ) (nodes : ℕ) → fetch_space t ≤ nodes → IsFetchAnswer t draws nodes (answers.Found zeros)
    settled_at pa at free draws nodes few = (
      few,
      record {
        is = record {
          log = log;
          pa = pa;
          plays = by_new (fetch_places t (values_in zeros)) ∙ ap (λ (r : Reached). Does log r) at;
          exact = λ place. ap (λ a. started t.known (log_of a) place) (by_given (values_in zeros));
          meets = record {
            may = λ i e j none. absurd (some_none e.value (sym (are_known e j) ∙ none));
            once = λ e f i j none. absurd (some_none e.value (sym (are_known e i) ∙ none));
            free = free;
            fresh = λ e j none. absurd (some_none e.value (sym (are_known e j) ∙ none));
          };
        };
        are_values = all_zero;
        least = λ other w before. not_before draws w.log (same_log other w).0 before;
      },
    )

    -- a walk that races, or that fails, lets no fetch succeed
    pub settled_none : ((pa : ℕ) → end ≡ At pa → ((e : Entry) → HasItem log e → is_free_entry t e ≡ true) → ⊥) → (draws : List ℕ) (nodes : ℕ) → fetch_space t ≤ nodes → IsFetchAnswer t draws nodes answers.NoneFits
    settled_none never draws nodes few = (few, λ new w. never w.pa (same_log new w).1 (subst (λ (l : List Entry). (e : Entry) → HasItem l e → is_free_entry t e ≡ true) (sym (same_log new w).0) w.meets.free))

-- ---- on a test

no_setting : Setting
no_setting = record { pool = []; tables = []; flags = []; vectors = []; sets = λ n. []; sources = λ v. true }

true_false : true ≡ false → ⊥
true_false h = absurd (cc h)

fails_not : (c : Cause) (pa : ℕ) → (let r : Reached = Fails c in r) ≡ At pa → ⊥
fails_not c pa h = absurd (cc h)

module _ (t : Template) (k : ℕ) (draws : List ℕ) (nodes : ℕ) (w : Whole) (own : List Touch) (ptes : List (ℕ × ℕ)) (test : IsTest w) (l : k < length w.harts) (footprint : IsFootprint own (footprints_of (λ j. records_of j w)))
    (few : (s : Setting) (feet : List Touch) → IsSettingOf t s → fetch_space (turn_at s feet k w) ≤ nodes) where
  free_same : (s : Setting) (feet : List Touch) → IsFootprint feet (footprints_of (λ j. records_of j w)) → (a : ℕ) → is_free (turn_at s feet k w) (walk_at a) ≡ is_free_walk own k a
  free_same s feet f a =
      ap (λ (n : ℕ). not (list_any (hit n a) feet)) (test.number k l)
      ∙ ap (λ (b : Bool). not b) (same_races (walk_at a) feet own (footprints_of (λ j. records_of j w)) k f footprint)
    where
      hit : ℕ → ℕ → Touch → Bool
      hit hart addr touch = covers (walk_at addr) touch.byte && breaks (eqb touch.hart hart) touch.role Walk

  abbrev Logged : Reached → Type 0
  Logged end = IsLogged (walk_script (fixed_in (hart_of k w) w.memory)) (by_known (known_at k w)) (map entry_access ptes) end

  log_of_walk : (end : Reached) → walked_at k w ≡ Does (map entry_access ptes) end → Logged end
  log_of_walk end walked = logged (walk_script (fixed_in (hart_of k w) w.memory)) (by_known (known_at k w)) (map entry_access ptes) end walked

  free_in : (end : Reached) (g : Logged end) → are_free_walks own k ptes ≡ true → (s : Setting) (feet : List Touch) → IsFootprint feet (footprints_of (λ j. records_of j w)) → (e : Entry) → HasItem g.log e → is_free_entry (turn_at s feet k w) e ≡ true
  free_in end g free s feet f =
      free_entries (turn_at s feet k w) g.log (λ x i. each_free (turn_at s feet k w) own k ptes (free_same s feet f) free x (subst (λ (xs : List Access). HasItem xs x) g.notes i))

  -- the walk leads to an address, and races with nothing
  pub entered_settled : (pa : ℕ) → (hart_of k w).pc % 4 ≡ 0 → walked_at k w ≡ Does (map entry_access ptes) (At pa) → are_free_walks own k ptes ≡ true → IsEnteredAs t k draws nodes w w (entered.At pa)
  entered_settled pa aligned walked free =
      let g = log_of_walk (At pa) walked in (
        zeros,
        λ s feet setting f. settled_at (turn_at s feet k w) g.log (At pa) g.plays pa refl (free_in (At pa) g free s feet f) draws nodes (few s feet setting),
        record {
          placed = record {
            places = [];
            can = tt;
            listed = λ place. sym (nothing_placed (turn_at no_setting [] k w) g.log (At pa) g.plays (values_in zeros) place);
            asked = tt;
            is = refl;
          };
          walk = g.log;
          leads = record { translates = g.plays; aligned = aligned; free = free_in (At pa) g free };
        },
      )

  -- it races
  pub entered_raced : (pa : ℕ) → walked_at k w ≡ Does (map entry_access ptes) (At pa) → are_free_walks own k ptes ≡ false → IsEnteredAs t k draws nodes w w entered.NoneFits
  entered_raced pa walked raced =
      let g = log_of_walk (At pa) walked in (
        λ s feet setting f.
            settled_none (turn_at s feet k w) g.log (At pa) g.plays (λ there at all.
            true_false (sym (all_free (turn_at s feet k w) own k ptes (free_same s feet f) (λ x i. free_accesses (turn_at s feet k w) g.log all x (subst (λ (xs : List Access). HasItem xs x) (sym g.notes) i))) ∙ raced)) draws nodes (few s feet setting),
        refl,
      )

-- it fails, or there is no step
module _ (t : Template) (k : ℕ) (draws : List ℕ) (nodes : ℕ) (w : Whole) (ptes : List (ℕ × ℕ)) (few : (s : Setting) (feet : List Touch) → IsSettingOf t s → fetch_space (turn_at s feet k w) ≤ nodes) where
  entered_failed : (c : Cause) → walked_at k w ≡ Does (map entry_access ptes) (Fails c) → IsEnteredAs t k draws nodes w w entered.NoneFits
  entered_failed c walked =
      let g = logged (walk_script (fixed_in (hart_of k w) w.memory)) (by_known (known_at k w)) (map entry_access ptes) (Fails c) walked in
      ((λ s feet setting f. settled_none (turn_at s feet k w) g.log (Fails c) g.plays (λ there at all. fails_not c there at) draws nodes (few s feet setting)), refl)

  entered_nowhere : walked_at k w ≡ Nowhere → IsEnteredAs t k draws nodes w w entered.NoneFits
  entered_nowhere walked = (
    λ s feet setting f. (
      few s feet setting,
      λ new c.
          does_nowhere c.log (At c.pa)
          (sym (nowhere_else (walk_script (fixed_in (hart_of k w) w.memory)) (by_known (known_at k w)) (by_known (enlarged (known_at k w) new)) (λ q v h. ap (λ (o : Option ℕ). or_else o (new (place_of q))) h) walked) ∙ c.plays),
    ),
    refl,
  )

  pub entered_none : (o : WalkEnd) → ended ptes o ≡ walked_at k w → ((c : Cause) × (o ≡ Fault c)) ⊎ (o ≡ EndsOutside) → IsEnteredAs t k draws nodes w w entered.NoneFits
  entered_none o says (inl (c, is)) = entered_failed c (sym says ∙ ap (ended ptes) is)
  entered_none o says (inr is) = entered_nowhere (sym says ∙ ap (ended ptes) is)

pub entered_spent : (t : Template) (k : ℕ) (draws : List ℕ) (nodes pairs : ℕ) (w : Whole) → ((s : Setting) (feet : List Touch) → IsSettingOf t s → fetch_space (turn_at s feet k w) ≡ pairs) → nodes < pairs → IsEnteredAs t k draws nodes w w entered.Spent
entered_spent t k draws nodes pairs w space less = ((λ s feet setting f. let same = space s feet setting in omega (arith, same, less)), refl)
