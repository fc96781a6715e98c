-- What hart k did, as admission goes through it: its pieces fail nowhere.
use Rattle.std.proofs.Common.{◌≡◌, ℕ, zero, suc, ◌+◌, ◌<◌, ◌≤◌, Bool, true, false, if◌then◌else◌, List, [], ◌∷◌, ◌++◌, append_assoc, append-nil, drop, get_or, get_or-set_other, get_or-set_same, length, take, Option, Some, None, refl, sym, ap, ◌∙◌, subst, arith}
use Rattle.std.specs.Prelude.{is_some, slice_index_or, slice_set}
use Rattle.std.specs.List.{list_any}
use Rattle.std.proofs.lemmas.Bool.{eq-eqb}
use Rattle.rv_hart.specs.declared.record.Record.{Record}
use Rattle.tpl_ast.specs.declared.template.Wish.{Wish}
use Rattle.tpl_ast.specs.Expansion.{Piece}
use Rattle.tpl_ast.specs.Expansion as pieces
use Rattle.tpl_admit.specs.Admitting.{Context, Failure, Stand, at, failures_at, failures_in, fetch_failures, here, is_value, leaf_failures, left_over, moment_of, unmet_atoms, went_on}
use Rattle.part_laws.specs.Partial.{Partial}
use Rattle.part_machine.specs.Whole.{Whole, hart_of, records_of}
use Rattle.part_state.specs.Meaning.{partial_of}
use Rattle.turn_laws.specs.Laws.{IsStartOn}
use Rattle.turn_laws.proofs.Starts.{start_same, start_then}
use Rattle.gen_turn.specs.Turns.{with_name}
use Rattle.gen_turn.proofs.BoundNames.{value_kept}
use Rattle.gen_turn.proofs.Filled.{IsFilled}
use Rattle.gen_turn.proofs.Laying.{Tagged, tagged}
use Rattle.gen_turn.proofs.FaultDone.{IsFaultDone}
use Rattle.gen_turn.proofs.LeafDone.{IsLater, IsLeafDone}
use Rattle.gen_turn.proofs.NamesAhead.{AreInOrder}
use Rattle.gen_turn.proofs.Paths.{IsChosen, Made, labelled}
use Rattle.gen_turn.proofs.StepDone.{IsStepDone}

-- ---- lists

take_less : {A : Type 0} (j k : ℕ) (xs ys : List A) → j ≤ k → take k xs ≡ take k ys → take j xs ≡ take j ys
take_less {A} j k xs ys le h = sym (taken_again j k xs le) ∙ ap (take j) h ∙ taken_again j k ys le
  where
    taken_again : (j k : ℕ) (zs : List A) → j ≤ k → take j (take k zs) ≡ take j zs
    taken_again zero k zs le = refl
    taken_again (suc j) zero zs le = absurd (omega (arith, le))
    taken_again (suc j) (suc k) [] le = refl
    taken_again (suc j) (suc k) (z ∷ zs) le = ap (λ (l : List A). z ∷ l) (taken_again j k zs (omega (arith, le)))

taken_suc : {A : Type 0} (n : ℕ) (xs : List A) (d : A) → get_or (take (suc n) xs) n d ≡ get_or xs n d
taken_suc n [] d = refl
taken_suc zero (x ∷ xs) d = refl
taken_suc (suc n) (x ∷ xs) d = taken_suc n xs d

taken_at : {A : Type 0} (n : ℕ) (xs : List A) (d : A) → get_or (take (n + 1) xs) n d ≡ get_or xs n d
taken_at n xs d = let same : n + 1 ≡ suc n = omega arith in ap (λ (m : ℕ). get_or (take m xs) n d) same ∙ taken_suc n xs d

nothing_added : {A : Type 0} (xs ys : List A) → xs ≡ xs ++ ys → ys ≡ []
nothing_added [] ys h = sym h
nothing_added {A} (x ∷ xs) ys h = nothing_added xs ys (ap (λ (l : List A). drop 1 l) h)

-- ---- the end of a path

-- all pieces are of harts from one on
abbrev pub AreFrom : ℕ → List Tagged → Type 0
AreFrom j [] = Unit {0}
AreFrom j (p ∷ ps) = (j ≤ p.0) × AreFrom j ps

module _ (sets : ℕ → List ℕ) (last : Whole) (names : ℕ → Option ℕ) (named : (n v : ℕ) → slice_index_or last.names n None ≡ Some v → names n ≡ Some v) where
  abbrev end : Partial
  end = partial_of last

  abbrev Later : Whole → Type 0
  Later w = IsLater w names last.dropped end

  -- choices change nothing else
  chosen_later : (w v : Whole) → IsChosen w v → Later v → Later w
  chosen_later w v is later = record {
    named = λ n u h. later.named n u (ap (λ (x : Whole). slice_index_or x.names n None) is.1 ∙ h);
    listed = λ test h. later.listed test (ap (λ (x : Whole). list_any test x.dropped) is.1 ∙ h);
    start = subst (λ (x : Whole). IsStartOn (partial_of x) end) is.1 later.start;
  }

  step_later : (k : ℕ) (ws : List Wish) (old after : Whole) → IsStepDone sets k ws old after → Later after → Later old
  step_later k ws old after done later = record {
    named = λ n v h. later.named n v (done.names n v h);
    listed = λ test h. later.listed test (done.listed test h);
    start = start_then (partial_of old) (partial_of after) end done.start later.start;
  }

  label_later : (k n : ℕ) (w : Whole) → Later (labelled k n w) → Later w
  label_later k n w later = record {
    named = λ m v h. later.named m v (value_kept n (Some (hart_of k w).pc) w.names m v h);
    listed = λ test h. later.listed test h;
    start = record { fixed = later.start.fixed; places = later.start.places; words = later.start.words };
  }

  pub made_later : (ps : List Tagged) (w : Whole) → Made sets last ps w → Later w
  made_later [] w made = chosen_later w last made (record { named = named; listed = λ test h. h; start = start_same end })
  made_later ((k, pieces.Leaf ws) ∷ ps) w made = chosen_later w made.0 made.2 (step_later k ws made.0 made.1 made.4.step (made_later ps made.1 made.5))
  made_later ((k, pieces.Label n) ∷ ps) w made = chosen_later w made.0 made.1 (label_later k n made.0 (made_later ps (labelled k n made.0) made.4))
  made_later ((k, pieces.FetchFault causes) ∷ ps) w made = chosen_later w made.0 made.2 (step_later k [] made.0 made.1 made.4.step (made_later ps made.1 made.5))
  made_later ((k, pieces.Stuck) ∷ ps) w made = absurd made

  -- what harts before did stays
  pub made_traces : (j : ℕ) (ps : List Tagged) (w : Whole) → AreFrom j ps → Made sets last ps w → take j last.traces ≡ take j w.traces
  made_traces j [] w from made = ap (λ (x : Whole). take j x.traces) made.1
  made_traces j ((k, pieces.Leaf ws) ∷ ps) w from made = made_traces j ps made.1 from.1 made.5 ∙ made.4.step.traces j from.0 ∙ ap (λ (x : Whole). take j x.traces) made.2.1
  made_traces j ((k, pieces.Label n) ∷ ps) w from made = made_traces j ps (labelled k n made.0) from.1 made.4 ∙ ap (λ (x : Whole). take j x.traces) made.1.1
  made_traces j ((k, pieces.FetchFault causes) ∷ ps) w from made = made_traces j ps made.1 from.1 made.5 ∙ made.4.step.traces j from.0 ∙ ap (λ (x : Whole). take j x.traces) made.2.1
  made_traces j ((k, pieces.Stuck) ∷ ps) w from made = absurd made

  pub made_records : (j : ℕ) (ps : List Tagged) (w : Whole) → AreFrom (j + 1) ps → Made sets last ps w → records_of j last ≡ records_of j w
  made_records j ps w from made = sym (taken_at j last.traces []) ∙ ap (λ (ts : List (List Record)). get_or ts j []) (made_traces (j + 1) ps w from made) ∙ taken_at j w.traces []

  -- ---- hart k as admission goes through it

  -- no name from a number on has a value
  abbrev pub IsFree : Whole → ℕ → Type 0
  IsFree w m = (n : ℕ) → m ≤ n → slice_index_or w.names n None ≡ None

  module _ (k : ℕ) where
    abbrev context : Context
    context = record { hart = k; names = names; others = take k last.traces; dropped = last.dropped }

    pub record IsAt (w : Whole) (s : Stand) : Type 0 where
      pub step : s.step ≡ length (records_of k w)
      pub pc : s.pc ≡ ((partial_of w).harts k).fixed.pc
      pub filled : IsFilled (partial_of w) k (end.start k).places s.regs
      pub records : records_of k last ≡ records_of k w ++ s.records

    at_chosen : (w v : Whole) (s : Stand) → IsChosen w v → IsAt w s → IsAt v s
    at_chosen w v s is a = record {
      step = a.step ∙ ap (λ (x : Whole). length (records_of k x)) (sym is.1);
      pc = a.pc ∙ ap (λ (x : Whole). ((partial_of x).harts k).fixed.pc) (sym is.1);
      filled = subst (λ (x : Whole). IsFilled (partial_of x) k (end.start k).places s.regs) (sym is.1) a.filled;
      records = a.records ∙ ap (λ (x : Whole). records_of k x ++ s.records) (sym is.1);
    }

    -- what the other harts have is what they had
    pub record IsKeptFor (j : ℕ) (w v : Whole) : Type 0 where
      pub records : (partial_of v).records j ≡ (partial_of w).records j
      pub now : (partial_of v).harts j ≡ (partial_of w).harts j
      pub first : (partial_of v).start j ≡ (partial_of w).start j

    kept_then : (j : ℕ) (u v w : Whole) → IsKeptFor j u v → IsKeptFor j v w → IsKeptFor j u w
    kept_then j u v w a b = record { records = b.records ∙ a.records; now = b.now ∙ a.now; first = b.first ∙ a.first }

    kept_chosen : (j : ℕ) (w v : Whole) → IsChosen w v → IsKeptFor j w v
    kept_chosen j w v is = record {
      records = ap (λ (x : Whole). (partial_of x).records j) is.1;
      now = ap (λ (x : Whole). (partial_of x).harts j) is.1;
      first = ap (λ (x : Whole). (partial_of x).start j) is.1;
    }

    -- behind the pieces of hart k
    pub record IsBehind (rest : List Tagged) (w : Whole) : Type 0 where
      pub test : Whole
      pub made : Made sets last rest test
      pub known : ℕ
      pub order : AreInOrder rest known
      pub free : IsFree test known
      pub count : length test.harts ≡ length w.harts
      pub kept : (j : ℕ) → (j ≡ k → ⊥) → IsKeptFor j w test

    free_chosen : (w v : Whole) (m : ℕ) → IsChosen w v → IsFree w m → IsFree v m
    free_chosen w v m is free n le = ap (λ (x : Whole). slice_index_or x.names n None) is.1 ∙ free n le

    behind_then : (rest : List Tagged) (w v : Whole) → length v.harts ≡ length w.harts → ((j : ℕ) → (j ≡ k → ⊥) → IsKeptFor j w v) → IsBehind rest v → IsBehind rest w
    behind_then rest w v count kept b = record {
      test = b.test;
      made = b.made;
      known = b.known;
      order = b.order;
      free = b.free;
      count = b.count ∙ count;
      kept = λ j apart. kept_then j w v b.test (kept j apart) (b.kept j apart);
    }

    same_rest : (xs ys zs : List Record) → xs ++ ys ≡ xs ++ zs → ys ≡ zs
    same_rest [] ys zs h = h
    same_rest (x ∷ xs) ys zs h = same_rest xs ys zs (ap (λ (l : List Record). drop 1 l) h)

    length_more : (xs : List Record) (x : Record) → length (xs ++ x ∷ []) ≡ length xs + 1
    length_more [] x = refl
    length_more (y ∷ xs) x = let h = length_more xs x in omega (arith, h)

    -- the record of a step is the next one, and admission goes on behind it
    record_next : (ws : List Wish) (old after : Whole) (s : Stand) → (done : IsStepDone sets k ws old after) → IsAt old s → (rest : List Record) → records_of k last ≡ records_of k after ++ rest → s.records ≡ done.record_is ∷ rest
    record_next ws old after s done a rest is =
        same_rest (records_of k old) s.records (done.record_is ∷ rest) (sym a.records ∙ is ∙ ap (λ (rs : List Record). rs ++ rest) done.told ∙ append_assoc (records_of k old) (done.record_is ∷ []) rest)

    step_on : (ws : List Wish) (old after : Whole) (ps : List Tagged) (s : Stand) → IsStepDone sets k ws old after → Made sets last ps after → IsAt old s → (rest : List Record) → records_of k last ≡ records_of k after ++ rest → IsAt after (went_on s s.records)
    step_on ws old after ps s done made a rest is =
        subst (λ (rs : List Record). IsAt after (went_on s rs)) (sym (record_next ws old after s done a rest is)) (record {
          step = ap (λ (n : ℕ). n + 1) a.step ∙ sym (ap length done.told ∙ length_more (records_of k old) done.record_is);
          pc = sym done.goes_to;
          filled = done.filled end s.regs (made_later ps after made).start a.filled;
          records = is;
        })

    -- a `do` leaf
    leaf_step : (ws : List Wish) (old after : Whole) (ps : List Tagged) (s : Stand) → IsLeafDone sets k ws old after → Made sets last ps after → IsAt old s → AreFrom k ps
        → (rest : List Record) → records_of k last ≡ records_of k after ++ rest → (failures_at context (pieces.Leaf ws) s ≡ []) × IsAt after (went_on s s.records)
    leaf_step ws old after ps s done made a from rest is =
        let first : s.records ≡ done.step.record_is ∷ rest = record_next ws old after s done.step a rest is in
        let others : take k last.traces ≡ take k old.traces = made_traces k ps after from made ∙ done.step.traces k (omega arith) in
        let none : unmet_atoms last.dropped k s.step (record { done = done.step.record_is; regs = s.regs; names = names; others = take k last.traces }) ws ≡ [] =
        ap (λ (n : ℕ). unmet_atoms last.dropped k n (record { done = done.step.record_is; regs = s.regs; names = names; others = take k last.traces }) ws) a.step
        ∙ ap (λ (os : List (List Record)). unmet_atoms last.dropped k (length (records_of k old)) (record { done = done.step.record_is; regs = s.regs; names = names; others = os }) ws) others
        ∙ done.admits names last.dropped end s.regs (made_later ps after made) a.filled in (
          ap (leaf_failures context s ws) first
              ∙ ap (λ (b : Bool). if b then here s else at s (unmet_atoms last.dropped k s.step (moment_of context s done.step.record_is) ws)) done.fetched
              ∙ ap (at s) none,
          step_on ws old after ps s done.step made a rest is,
        )

    -- a `fault` leaf
    fault_step : (causes : List ℕ) (old after : Whole) (ps : List Tagged) (s : Stand) → IsFaultDone sets k causes old after → Made sets last ps after → IsAt old s
        → (rest : List Record) → records_of k last ≡ records_of k after ++ rest → (failures_at context (pieces.FetchFault causes) s ≡ []) × IsAt after (went_on s s.records)
    fault_step causes old after ps s done made a rest is = (
      ap (fetch_failures s causes) (record_next [] old after s done.step a rest is) ∙ ap (λ (b : Bool). if b then [] else here s) done.fails,
      step_on [] old after ps s done.step made a rest is,
    )

    -- a label
    label_step : (n : ℕ) (w : Whole) (s : Stand) → IsAt w s → n < length w.names → slice_index_or w.names n None ≡ None → Later (labelled k n w) → failures_at context (pieces.Label n) s ≡ []
    label_step n w s a lt none later =
        let new : slice_index_or (with_name n (Some (hart_of k w).pc) w.names) n None ≡ Some (hart_of k w).pc =
        ap (λ (b : Bool). slice_index_or (if b then w.names else slice_set w.names n (Some (hart_of k w).pc)) n None) (ap is_some none) ∙ get_or-set_same w.names n (Some (hart_of k w).pc) None lt in
        let value : names n ≡ Some (hart_of k w).pc = later.named n (hart_of k w).pc new in
        ap (λ (b : Bool). if b then [] else here s) (ap (λ (o : Option ℕ). is_value o s.pc) value ∙ eq-eqb (hart_of k w).pc s.pc (sym a.pc))

    free_label : (n : ℕ) (w : Whole) (m : ℕ) → m ≤ n → IsFree w m → IsFree (labelled k n w) (n + 1)
    free_label n w m le free i more =
        go (is_some (slice_index_or w.names n None))
      where
        go : (b : Bool) → slice_index_or (if b then w.names else slice_set w.names n (Some (hart_of k w).pc)) i None ≡ None
        go true = free i (omega (arith, le, more))
        go false = get_or-set_other w.names n i (Some (hart_of k w).pc) None (λ e. absurd (omega (arith, e, more))) ∙ free i (omega (arith, le, more))

    from_here : (ps : List Piece) (rest : List Tagged) → AreFrom (k + 1) rest → AreFrom k (tagged k ps ++ rest)
    from_here [] rest from = later rest from
      where
        later : (rest : List Tagged) → AreFrom (k + 1) rest → AreFrom k rest
        later [] from = tt
        later (p ∷ rest) from = ((let h = from.0 in omega (arith, h)), later rest from.1)
    from_here (p ∷ ps) rest from = (omega arith, from_here ps rest from)

    -- records of hart k that are still to come
    made_more : (ps : List Piece) (rest : List Tagged) (w : Whole) → AreFrom (k + 1) rest → Made sets last (tagged k ps ++ rest) w → (more : List Record) × (records_of k last ≡ records_of k w ++ more)
    made_more [] rest w from made = ([], made_records k rest w from made ∙ sym (append-nil (records_of k w)))
    made_more (pieces.Leaf ws ∷ ps) rest w from made =
        let m = made_more ps rest made.1 from made.5 in (
          made.4.step.record_is ∷ m.0,
          m.1 ∙ ap (λ (rs : List Record). rs ++ m.0) (made.4.step.told ∙ ap (λ (x : Whole). records_of k x ++ made.4.step.record_is ∷ []) made.2.1) ∙ append_assoc (records_of k w) (made.4.step.record_is ∷ []) m.0,
        )
    made_more (pieces.Label n ∷ ps) rest w from made = let m = made_more ps rest (labelled k n made.0) from made.4 in (m.0, m.1 ∙ ap (λ (x : Whole). records_of k x ++ m.0) made.1.1)
    made_more (pieces.FetchFault causes ∷ ps) rest w from made =
        let m = made_more ps rest made.1 from made.5 in (
          made.4.step.record_is ∷ m.0,
          m.1 ∙ ap (λ (rs : List Record). rs ++ m.0) (made.4.step.told ∙ ap (λ (x : Whole). records_of k x ++ made.4.step.record_is ∷ []) made.2.1) ∙ append_assoc (records_of k w) (made.4.step.record_is ∷ []) m.0,
        )
    made_more (pieces.Stuck ∷ ps) rest w from made = absurd made

    pub hart_runs : (ps : List Piece) (rest : List Tagged) (w : Whole) (s : Stand) (m : ℕ) → AreFrom (k + 1) rest → Made sets last (tagged k ps ++ rest) w → AreInOrder (tagged k ps ++ rest) m → IsFree w m → IsAt w s
        → (failures_in context ps s ≡ []) × IsBehind rest w
    hart_runs [] rest w s m from made order free a =
        let none : s.records ≡ [] = nothing_added (records_of k w) s.records (sym (made_records k rest w from made) ∙ a.records) in
        (ap (left_over s) none, record { test = w; made = made; known = m; order = order; free = free; count = refl; kept = λ j apart. record { records = refl; now = refl; first = refl } })
    hart_runs (pieces.Leaf ws ∷ ps) rest w s m from made order free a =
        let more = made_more ps rest made.1 from made.5 in
        let step = leaf_step ws made.0 made.1 (tagged k ps ++ rest) s made.4 made.5 (at_chosen w made.0 s made.2 a) (from_here ps rest from) more.0 more.1 in
        let next = hart_runs ps rest made.1 (went_on s s.records) order.0 from made.5 order.3
        (λ n le. made.4.step.above order.0 order.2 n le ∙ free_chosen w made.0 m made.2 free n (let h = order.1 in omega (arith, h, le))) step.1 in (
          ap (λ (fs : List Failure). fs ++ failures_in context ps (went_on s s.records)) step.0 ∙ next.0,
          behind_then rest w made.1 (made.4.step.count ∙ ap (λ (x : Whole). length x.harts) made.2.1)
              (λ j apart. kept_then j w made.0 made.1 (kept_chosen j w made.0 made.2) (let o = made.4.step.others j apart in record { records = o.0; now = o.1; first = o.2 })) next.1,
        )
    hart_runs (pieces.Label n ∷ ps) rest w s m from made order free a =
        let at_before : IsAt made.0 s = at_chosen w made.0 s made.1 a in
        let free_before : IsFree made.0 m = free_chosen w made.0 m made.1 free in
        let fails : failures_at context (pieces.Label n) s ≡ [] = label_step n made.0 s at_before made.3 (free_before n order.0) (made_later (tagged k ps ++ rest) (labelled k n made.0) made.4) in
        let next = hart_runs ps rest (labelled k n made.0) s (n + 1) from made.4 order.1 (free_label n made.0 m order.0 free_before)
        (record { step = at_before.step; pc = at_before.pc; filled = record { size = at_before.filled.size; zero = at_before.filled.zero; each = at_before.filled.each }; records = at_before.records }) in (
          ap (λ (fs : List Failure). fs ++ failures_in context ps s) fails ∙ next.0,
          behind_then rest w (labelled k n made.0) (ap (λ (x : Whole). length x.harts) made.1.1)
              (λ j apart. kept_then j w made.0 (labelled k n made.0) (kept_chosen j w made.0 made.1) (record { records = refl; now = refl; first = refl })) next.1,
        )
    hart_runs (pieces.FetchFault causes ∷ ps) rest w s m from made order free a =
        let more = made_more ps rest made.1 from made.5 in
        let step = fault_step causes made.0 made.1 (tagged k ps ++ rest) s made.4 made.5 (at_chosen w made.0 s made.2 a) more.0 more.1 in
        let next = hart_runs ps rest made.1 (went_on s s.records) m from made.5 order (λ n le. made.4.step.above m refl n le ∙ free_chosen w made.0 m made.2 free n le) step.1 in (
          ap (λ (fs : List Failure). fs ++ failures_in context ps (went_on s s.records)) step.0 ∙ next.0,
          behind_then rest w made.1 (made.4.step.count ∙ ap (λ (x : Whole). length x.harts) made.2.1)
              (λ j apart. kept_then j w made.0 made.1 (kept_chosen j w made.0 made.2) (let o = made.4.step.others j apart in record { records = o.0; now = o.1; first = o.2 })) next.1,
        )
    hart_runs (pieces.Stuck ∷ ps) rest w s m from made order free a = absurd made
