-- What a step that is taken does to a test.
use Rattle.std.proofs.Common.{◌≡◌, ℕ, ◌+◌, ◌<◌, ◌≤◌, ◌^◌, Bool, true, false, if◌then◌else◌, List, [], ◌∷◌, ◌++◌, length, map, take, Option, Some, None, ◌⊎◌, refl, sym, ap, ◌∙◌, subst, arith}
use Rattle.std.specs.Prelude.{slice_index_or, slice_set}
use Rattle.std.specs.List.{list_all, list_any}
use Rattle.std.proofs.lemmas.Bool.{eq-eqb, ne_eqb}
use Rattle.std.proofs.lemmas.List.{take-set-le}
use Rattle.rv_script.specs.declared.place.Place.{Place}
use Rattle.rv_script.specs.declared.place.Place.TheVariants.{Reg}
use Rattle.rv_script.specs.Folds.{Entry}
use Rattle.rv_script.specs.Logs.{or_else, same_place}
use Rattle.dom_set.specs.Elements.{is_in}
use Rattle.rv_hart.specs.declared.record.Change.{Change}
use Rattle.rv_hart.specs.declared.record.Record.{Record}
use Rattle.rv_hart.specs.Changes.{IsSoundWrite}
use Rattle.rv_hart.specs.Fixed.{Fixed}
use Rattle.rv_hart.specs.Clauses.{IsFitRecord, IsFitWrite}
use Rattle.rv_hart.specs.Whole.{record_of}
use Rattle.tpl_ast.specs.declared.template.Wish.{Wish}
use Rattle.tpl_ast.specs.Leaves.{atoms_of, is_name_below}
use Rattle.tpl_ast.specs.Limits.{file_limits}
use Rattle.tpl_admit.specs.declared.dropped.Dropped.{Dropped}
use Rattle.rv_hart.specs.Registers.{written}
use Rattle.tpl_admit.specs.Variables.{value_of}
use Rattle.part_laws.specs.Partial.{Partial, advanced, held_after}
use Rattle.part_machine.specs.Whole.{Whole, fixed_in, hart_of, records_of}
use Rattle.part_state.specs.Meaning.{IsTest, partial_of, place_given}
use Rattle.part_state.proofs.Meanings.{stepped_partial}
use Rattle.leaf_link.specs.Candidates.{accesses_in}
use Rattle.leaf_link.specs.Values.{Values}
use Rattle.turn_laws.specs.Given.{CanGive, given_to, known_at}
use Rattle.turn_laws.specs.Laws.{IsBeside, IsStartOn}
use Rattle.turn_laws.proofs.Places.{beside, fixed_parts, has, known, tests}
use Rattle.turn_laws.proofs.Starts.{others_stay, start_then, starts_grow}
use Rattle.gen_search.specs.Search.{Turned, Turned.Taken, Turned.NoneFits, Turned.Spent}
use Rattle.gen_turn.specs.Drafts.{Drafted}
use Rattle.gen_turn.specs.Grounds.{IsOfWords}
use Rattle.gen_turn.specs.Turns.{IsLeafTaken, listed_as, moment_at, names_bound}
use Rattle.gen_turn.proofs.BoundNames.{names_above, names_kept}
use Rattle.gen_turn.proofs.Filled.{IsFilled, given_filled, step_filled}
use Rattle.gen_turn.proofs.Judged.{any_first}
use Rattle.gen_turn.proofs.Listing.{AreDroppedTo, place_of_step}
use Rattle.gen_turn.proofs.Names.{many_bound}
use Rattle.gen_turn.proofs.WordCounts.{words_given, words_in}

-- what is listed of a step of hart k stands behind what was listed before, and is of this step
abbrev pub AreListedBehind : ℕ → Whole → List Dropped → Type 0
AreListedBehind k old now =
    (harts : ℕ) → k < harts → length (records_of k old) < file_limits.steps
    → (more : List Dropped) × (now ≡ old.dropped ++ more) × AreDroppedTo harts (place_of_step k (length (records_of k old))) more (place_of_step k (length (records_of k old) + 1))

-- a step of hart k with this record was made between two tests, and names of these atoms were bound; what is known then is what was known before, with registers that the
-- start gives; the sets are those of the names
pub record IsStepDone (sets : ℕ → List ℕ) (k : ℕ) (ws : List Wish) (old after : Whole) : Type 0 where
  pub record_is : Record
  pub fit : IsFitRecord record_is
  pub room : k < length old.traces
  pub traces_are : after.traces ≡ slice_set old.traces k (records_of k old ++ record_is ∷ [])
  pub told : records_of k after ≡ records_of k old ++ record_is ∷ []
  pub others : (j : ℕ) → (j ≡ k → ⊥) → ((partial_of after).records j ≡ (partial_of old).records j) × ((partial_of after).harts j ≡ (partial_of old).harts j) × ((partial_of after).start j ≡ (partial_of old).start j)
  pub traces : (j : ℕ) → j ≤ k → take j after.traces ≡ take j old.traces
  pub goes_to : ((partial_of after).harts k).fixed.pc ≡ record_is.next_pc
  pub choices : after.choices ≡ old.choices
  pub count : length after.harts ≡ length old.harts
  pub test : IsTest after
  pub names : (n v : ℕ) → slice_index_or old.names n None ≡ Some v → slice_index_or after.names n None ≡ Some v
  pub above : (m : ℕ) → list_all (is_name_below m) (atoms_of ws) ≡ true → (n : ℕ) → m ≤ n → slice_index_or after.names n None ≡ slice_index_or old.names n None
  pub many : length after.names ≡ length old.names
  pub values : (n v : ℕ) → slice_index_or after.names n None ≡ Some v → (slice_index_or old.names n None ≡ Some v) ⊎ ((v < 2 ^ 32) × (is_in (sets n) v ≡ true))
  pub listed : (test : Dropped → Bool) → list_any test old.dropped ≡ true → list_any test after.dropped ≡ true
  pub dropped : AreListedBehind k old after.dropped
  pub words : length after.words ≤ length old.words + 6
  pub start : IsStartOn (partial_of old) (partial_of after)
  -- admission follows the registers
  pub filled : (end : Partial) (regs : List (Option ℕ)) → IsStartOn (partial_of after) end → IsFilled (partial_of old) k (end.start k).places regs → IsFilled (partial_of after) k (end.start k).places (written record_is.rd regs)

sound_write : (rd : Option (ℕ × ℕ)) → IsFitWrite rd → IsSoundWrite rd
sound_write None h = λ x e. absurd (cc e)
sound_write (Some rd) h = λ x e. let same : rd ≡ x = cc e in subst (λ (y : ℕ × ℕ). (0 < y.0) × (y.0 < 32)) same (h.0, h.1)

pub same_taken : (a b : Drafted) → Taken a ≡ Taken b → a ≡ b
same_taken a b h = ap (λ (r : Turned Drafted). elim r [ Taken e ↦ e | NoneFits ↦ a | Spent ↦ a ]) h

-- ---- the step of an answer

module _ (k : ℕ) (ws : List Wish) (dropped : List (ℕ × Bool)) (x : Values) (old after : Whole) (test_old : IsTest old) (hart_old : k < length old.harts) (words_old : IsOfWords k old) (l : IsLeafTaken k ws dropped x old after) where
  abbrev given : Whole
  given = l.taken.given

  abbrev es : List (Place × ℕ)
  es = l.taken.places.places

  abbrev log : List Entry
  log = l.taken.log

  abbrev change : Change
  change = l.taken.change

  -- tests

  beside_given : IsBeside old given
  beside_given = subst (IsBeside old) (sym l.taken.places.is) (beside k es old)

  pub test_given : IsTest given
  test_given = subst IsTest (sym l.taken.places.is) (tests k es old test_old hart_old l.taken.places.can)

  pub hart_given : k < length given.harts
  hart_given = let lt = hart_old in let same = beside_given.harts in omega (arith, lt, same)

  fixed_given : fixed_in (hart_of k given) given.memory ≡ fixed_in (hart_of k old) old.memory
  fixed_given = ap (λ (w : Whole). fixed_in (hart_of k w) w.memory) l.taken.places.is ∙ fixed_parts k es old test_old hart_old l.taken.places.can

  record_given : l.done ≡ record_of (fixed_in (hart_of k given) given.memory) (accesses_in log) change
  record_given = l.taken.record_is ∙ ap (λ (f : Fixed). record_of f (accesses_in log) change) (sym fixed_given)

  rd_is : l.done.rd ≡ change.rd
  rd_is = ap (λ (r : Record). r.rd) l.taken.record_is

  sound : IsSoundWrite change.rd
  sound = subst IsSoundWrite rd_is (sound_write l.done.rd l.fit.rd)

  -- what is told of the tests

  part_after : partial_of after ≡ advanced k (accesses_in log) change (partial_of given)
  part_after = ap partial_of l.is ∙ ap partial_of l.taken.now ∙ stepped_partial k (accesses_in log) change given (has k given test_given hart_given) (test_given.fit k hart_given) sound

  start_given : IsStartOn (partial_of old) (partial_of given)
  start_given = subst (λ (w : Whole). IsStartOn (partial_of old) (partial_of w)) (sym l.taken.places.is) (starts_grow k es old test_old hart_old l.taken.places.can)

  pub start_step : IsStartOn (partial_of given) (partial_of after)
  start_step = subst (IsStartOn (partial_of given)) (sym part_after) (record { fixed = λ j. refl; places = λ j key v h. h; words = λ n v h. h })

  start_after : IsStartOn (partial_of old) (partial_of after)
  start_after = start_then (partial_of old) (partial_of given) (partial_of after) start_given start_step

  records_old : records_of k given ≡ records_of k old
  records_old = ap (λ (ts : List (List Record)). slice_index_or ts k []) beside_given.traces

  told_after : records_of k after ≡ records_of k old ++ l.done ∷ []
  told_after =
      ap (λ (p : Partial). p.records k) part_after
      ∙ ap (λ (b : Bool). if b then records_of k given ++ record_of (fixed_in (hart_of k given) given.memory) (accesses_in log) change ∷ [] else records_of k given) (eq-eqb k k refl)
      ∙ ap (λ (rs : List Record). rs ++ record_of (fixed_in (hart_of k given) given.memory) (accesses_in log) change ∷ []) records_old
      ∙ ap (λ (r : Record). records_of k old ++ r ∷ []) (sym record_given)

  pc_after : ((partial_of after).harts k).fixed.pc ≡ l.done.next_pc
  pc_after =
      ap (λ (p : Partial). (p.harts k).fixed.pc) part_after
      ∙ ap (λ (b : Bool). (if b then held_after change ((partial_of given).harts k) else (partial_of given).harts k).fixed.pc) (eq-eqb k k refl)
      ∙ sym (ap (λ (r : Record). r.next_pc) l.taken.record_is)

  traces_after : (j : ℕ) → j ≤ k → take j after.traces ≡ take j old.traces
  traces_after j le =
      ap (λ (w : Whole). take j w.traces) l.is ∙ ap (λ (w : Whole). take j w.traces) l.taken.now
      ∙ take-set-le j given.traces k _ le
      ∙ ap (take j) beside_given.traces

  names_old : l.stepped.names ≡ old.names
  names_old = ap (λ (w : Whole). w.names) l.taken.now ∙ beside_given.names

  dropped_old : l.stepped.dropped ≡ old.dropped
  dropped_old = ap (λ (w : Whole). w.dropped) l.taken.now ∙ beside_given.dropped

  pub names_after : after.names ≡ names_bound (λ v. value_of v (moment_at k x l.done old)) dropped 0 ws old.names
  names_after = ap (λ (w : Whole). w.names) l.is ∙ ap (names_bound (λ v. value_of v (moment_at k x l.done old)) dropped 0 ws) names_old

  pub dropped_after : after.dropped ≡ old.dropped ++ map (listed_as k (length (records_of k old)) ws) dropped
  dropped_after = ap (λ (w : Whole). w.dropped) l.is ∙ ap (λ (ds : List Dropped). ds ++ map (listed_as k (length (records_of k old)) ws) dropped) dropped_old

  others_after : (j : ℕ) → (j ≡ k → ⊥) → ((partial_of after).records j ≡ (partial_of old).records j) × ((partial_of after).harts j ≡ (partial_of old).harts j) × ((partial_of after).start j ≡ (partial_of old).start j)
  others_after j apart =
      let held = others_stay k es old test_old hart_old l.taken.places.can j apart in
      let now : (partial_of given).harts j ≡ (partial_of old).harts j = ap (λ (w : Whole). (partial_of w).harts j) l.taken.places.is ∙ held.0 in
      let first : (partial_of given).start j ≡ (partial_of old).start j = ap (λ (w : Whole). (partial_of w).start j) l.taken.places.is ∙ held.1 in (
        ap (λ (p : Partial). p.records j) part_after
            ∙ ap (λ (b : Bool). if b then records_of k given ++ record_of (fixed_in (hart_of k given) given.memory) (accesses_in log) change ∷ [] else records_of j given) (ne_eqb j k apart)
            ∙ ap (λ (ts : List (List Record)). slice_index_or ts j []) beside_given.traces,
        ap (λ (p : Partial). p.harts j) part_after
            ∙ ap (λ (b : Bool). if b then held_after change ((partial_of given).harts k) else (partial_of given).harts j) (ne_eqb j k apart) ∙ now,
        ap (λ (p : Partial). p.start j) part_after ∙ first,
      )

  traces_set : after.traces ≡ slice_set old.traces k (records_of k old ++ l.done ∷ [])
  traces_set =
      ap (λ (w : Whole). w.traces) l.is ∙ ap (λ (w : Whole). w.traces) l.taken.now
      ∙ ap (λ (r : Record). slice_set given.traces k (records_of k given ++ r ∷ [])) (sym record_given)
      ∙ ap (λ (ts : List (List Record)). slice_set ts k (slice_index_or ts k [] ++ l.done ∷ [])) beside_given.traces

  pub words_after : words_in es ≤ 4 → length after.words ≤ length old.words + 4
  words_after few =
      let all : length after.words ≡ length old.words + words_in es =
      ap (λ (w : Whole). length w.words) l.is ∙ ap (λ (w : Whole). length w.words) l.taken.now ∙ ap (λ (w : Whole). length w.words) l.taken.places.is ∙ words_given k es old in
      omega (arith, few, all)

  -- what is known is words

  given_small : (es : List (Place × ℕ)) (w : Whole) (place : Place) (v : ℕ) → CanGive k es w → given_to es place ≡ Some v → v < 2 ^ 32
  given_small [] w place v can h = absurd (cc h)
  given_small (e ∷ es) w place v can h = go (same_place e.0 place) h (given_small es (place_given k e.0 e.1 w) place v can.3)
    where
      go : (b : Bool) → (if b then Some e.1 else given_to es place) ≡ Some v → (given_to es place ≡ Some v → v < 2 ^ 32) → v < 2 ^ 32
      go true h rest = let same : e.1 ≡ v = cc h in subst (λ (n : ℕ). n < 2 ^ 32) same can.2
      go false h rest = rest h

  or_small : (o p : Option ℕ) (v : ℕ) → (o ≡ Some v → v < 2 ^ 32) → (p ≡ Some v → v < 2 ^ 32) → or_else o p ≡ Some v → v < 2 ^ 32
  or_small None p v h k e = k e
  or_small (Some u) p v h k e = h e

  pub given_words : (i v : ℕ) → i < 32 → known_at k given (Reg i) ≡ Some v → v < 2 ^ 32
  given_words i v small h =
      or_small (known_at k old (Reg i)) (given_to es (Reg i)) v (words_old.known (Reg i) v) (given_small es old (Reg i) v l.taken.places.can)
      (sym (ap (λ (w : Whole). known_at k w (Reg i)) l.taken.places.is ∙ known k es old test_old hart_old l.taken.places.can (Reg i) small) ∙ h)

  -- the registers

  pub filled_given : (end : Partial) (regs : List (Option ℕ)) → IsStartOn (partial_of given) end → IsFilled (partial_of old) k (end.start k).places regs → IsFilled (partial_of given) k (end.start k).places regs
  filled_given end regs on filled =
      subst (λ (w : Whole). IsFilled (partial_of w) k (end.start k).places regs) (sym l.taken.places.is)
      (given_filled k es old end regs test_old (subst IsTest l.taken.places.is test_given) hart_old (subst (λ (w : Whole). k < length w.harts) l.taken.places.is hart_given) l.taken.places.can
      (subst (λ (w : Whole). IsStartOn (partial_of w) end) l.taken.places.is on) filled)

  filled_after : (end : Partial) (regs : List (Option ℕ)) → IsStartOn (partial_of after) end → IsFilled (partial_of old) k (end.start k).places regs → IsFilled (partial_of after) k (end.start k).places (written l.done.rd regs)
  filled_after end regs on filled =
      subst (λ (rd : Option (ℕ × ℕ)). IsFilled (partial_of after) k (end.start k).places (written rd regs)) (sym rd_is)
      (subst (λ (p : Partial). IsFilled p k (end.start k).places (written change.rd regs)) (sym part_after)
      (step_filled k (accesses_in log) change (partial_of given) (end.start k).places regs sound (filled_given end regs (start_then (partial_of given) (partial_of after) end start_step on) filled)))

  -- two words at most are new behind those of its fetch, the names that are bound have values of their sets, and the biases that are listed are of this step
  pub step_done : (sets : ℕ → List ℕ) → words_in es ≤ 4 → ((n v : ℕ) → slice_index_or after.names n None ≡ Some v → (slice_index_or old.names n None ≡ Some v) ⊎ ((v < 2 ^ 32) × (is_in (sets n) v ≡ true)))
      → AreListedBehind k old after.dropped → IsStepDone sets k ws old after
  step_done sets few values dropped_to = record {
    record_is = l.done;
    fit = l.fit;
    room = (let lt = hart_old in let same = test_old.traces in omega (arith, lt, same));
    traces_are = traces_set;
    told = told_after;
    others = others_after;
    traces = traces_after;
    goes_to = pc_after;
    choices = ap (λ (w : Whole). w.choices) l.is ∙ ap (λ (w : Whole). w.choices) l.taken.now ∙ beside_given.choices;
    count = ap (λ (p : Partial). p.count) part_after ∙ beside_given.harts;
    test = l.test;
    names = λ n v h. ap (λ (ns : List (Option ℕ)). slice_index_or ns n None) names_after ∙ names_kept (λ u. value_of u (moment_at k x l.done old)) dropped 0 ws old.names n v h;
    above = λ m below n le. ap (λ (ns : List (Option ℕ)). slice_index_or ns n None) names_after ∙ names_above (λ u. value_of u (moment_at k x l.done old)) dropped m n le 0 ws old.names below;
    many = ap length names_after ∙ many_bound (λ u. value_of u (moment_at k x l.done old)) dropped 0 ws old.names;
    values = values;
    listed = λ test h. ap (list_any test) dropped_after ∙ any_first test old.dropped _ h;
    dropped = dropped_to;
    words = (let h = words_after few in omega (arith, h));
    start = start_after;
    filled = filled_after;
  }

  pub record_done : (sets : ℕ → List ℕ) (few : words_in es ≤ 4) (values : (n v : ℕ) → slice_index_or after.names n None ≡ Some v → (slice_index_or old.names n None ≡ Some v) ⊎ ((v < 2 ^ 32) × (is_in (sets n) v ≡ true)))
      (dropped_to : AreListedBehind k old after.dropped) → (step_done sets few values dropped_to).record_is ≡ l.done
  unfolding step_done
  record_done sets few values dropped_to = refl
