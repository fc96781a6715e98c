-- What a test in which a search is done keeps of the limits of a file.
use Rattle.std.proofs.Common.{◌≡◌, ℕ, zero, suc, ◌+◌, ◌*◌, ◌<◌, ◌≤◌, ◌^◌, true, List, [], ◌∷◌, ◌++◌, length, Option, Some, None, ◌⊎◌, refl, sym, ap, ◌∙◌, subst, inl, inr, arith}
use Rattle.std.specs.Prelude.{slice_get, slice_index_or, slice_set, sum_by}
use Rattle.std.specs.List.{AllByRecursion}
use Rattle.std.proofs.lemmas.Bool.{cases_eq, le-leb}
use Rattle.std.proofs.lemmas.List.Sums.{sum_by-cons}
use Rattle.dom_set.specs.Elements.{is_in}
use Rattle.rv_hart.specs.declared.record.Outcome.{Outcome}
use Rattle.rv_hart.specs.declared.record.Outcome.TheVariants.{Retired, Trap}
use Rattle.rv_hart.specs.declared.record.Record.{Record}
use Rattle.rv_hart.specs.Clauses.{IsFitOutcome, IsFitRecord, IsFitWrite}
use Rattle.tpl_ast.specs.declared.template.NameDecl.{NameDecl}
use Rattle.tpl_ast.specs.declared.template.Template.{Template}
use Rattle.tpl_ast.specs.declared.template.Wish.{Wish}
use Rattle.tpl_ast.specs.Expansion as pieces
use Rattle.tpl_ast.specs.Limits.{file_limits}
use Rattle.tpl_ast.specs.Naming.{IsFreeLabel, count_in_head}
use Rattle.tpl_ast.specs.Templates.{KeepsLimits}
use Rattle.tpl_admit.specs.declared.dropped.Dropped.{Dropped}
use Rattle.tpl_admit.specs.WellFormed.{AreNamed, IsNamed, IsOutcome, IsRecord, IsWritten}
use Rattle.part_laws.specs.Partial.{Held}
use Rattle.part_machine.specs.Whole.{Whole, hart_of, records_of}
use Rattle.part_state.specs.Meaning.{partial_of}
use Rattle.part_told.specs.Finishing.{known_from}
use Rattle.leaf_turn.specs.Grounds.{declared_set}
use Rattle.gen_turn.proofs.BoundNames.{value_was}
use Rattle.gen_turn.proofs.Laying.{Tagged}
use Rattle.gen_turn.proofs.Listing.{AreDroppedTo, dropped_few, dropped_further, dropped_more, place_of_step}
use Rattle.gen_turn.proofs.Names.{many_with_name}
use Rattle.gen_turn.proofs.NamesAhead.{AreInOrder}
use Rattle.gen_turn.proofs.Paths.{IsChosen, Made, labelled, sets_of, with_choices}
use Rattle.gen_turn.proofs.Shortness.{records_of_pieces}
use Rattle.gen_turn.proofs.StepDone.{IsStepDone}

-- ---- records

fit_outcome : (o : Outcome) → IsFitOutcome o → IsOutcome o
fit_outcome Retired fit = tt
fit_outcome (Trap cause value to) fit = fit

fit_write : (rd : Option (ℕ × ℕ)) → IsFitWrite rd → IsWritten rd
fit_write None fit = tt
fit_write (Some rd) fit = fit

pub fit_record : (r : Record) → IsFitRecord r → IsRecord r
fit_record r fit = record { pc = fit.pc; word = fit.word; next_pc = fit.next_pc; outcome = fit_outcome r.outcome fit.outcome; rd = fit_write r.rd fit.rd; accesses = fit.accesses; count = fit.count }

abbrev pub AreRecords : List (List Record) → Type 0
AreRecords ts = AllByRecursion (λ rs. AllByRecursion IsRecord rs) ts

all_more : (rs : List Record) (r : Record) → AllByRecursion IsRecord rs → IsRecord r → AllByRecursion IsRecord (rs ++ r ∷ [])
all_more [] r all is = (is, tt)
all_more (x ∷ rs) r all is = (all.0, all_more rs r all.1 is)

records_set : (ts : List (List Record)) (k : ℕ) (rs : List Record) → AreRecords ts → AllByRecursion IsRecord rs → AreRecords (slice_set ts k rs)
records_set [] k rs all is = tt
records_set (t ∷ ts) zero rs all is = (is, all.1)
records_set (t ∷ ts) (suc k) rs all is = (all.0, records_set ts k rs all.1 is)

records_at : (ts : List (List Record)) (k : ℕ) → AreRecords ts → AllByRecursion IsRecord (slice_index_or ts k [])
records_at [] k all = tt
records_at (t ∷ ts) zero all = all.0
records_at (t ∷ ts) (suc k) all = records_at ts k all.1

-- how many records there are
abbrev pub total : List (List Record) → ℕ
total [] = 0
total (t ∷ ts) = length t + total ts

pub sum_is : (ts : List (List Record)) → sum_by (λ t. length t) ts ≡ total ts
sum_is [] = refl
sum_is (t ∷ ts) = sum_by-cons (λ r. length r) t ts ∙ ap (λ (n : ℕ). length t + n) (sum_is ts)

length_more : (rs : List Record) (r : Record) → length (rs ++ r ∷ []) ≡ length rs + 1
length_more [] r = refl
length_more (x ∷ rs) r = let h = length_more rs r in omega (arith, h)

total_set : (ts : List (List Record)) (k : ℕ) (r : Record) → k < length ts → total (slice_set ts k (slice_index_or ts k [] ++ r ∷ [])) ≡ total ts + 1
total_set [] k r lt = absurd (omega (arith, lt))
total_set (t ∷ ts) zero r lt = let h = length_more t r in omega (arith, h)
total_set (t ∷ ts) (suc k) r lt = let h = total_set ts k r (omega (arith, lt)) in omega (arith, h)

one_of_total : (ts : List (List Record)) (k : ℕ) → length (slice_index_or ts k []) ≤ total ts
one_of_total [] k = omega arith
one_of_total (t ∷ ts) zero = omega arith
one_of_total (t ∷ ts) (suc k) = let h = one_of_total ts k in omega (arith, h)

-- ---- pieces of harts in turn

abbrev pub AreUp : ℕ → List Tagged → Type 0
AreUp k [] = Unit {0}
AreUp k (p ∷ ps) = (k ≤ p.0) × AreUp p.0 ps

-- ---- along a path

module _ (t : Template) (keeps : KeepsLimits t.text t) where
  -- what is kept of a test of which hart k made the last step
  pub record IsFit (k : ℕ) (w : Whole) : Type 0 where
    pub records : AreRecords w.traces
    pub pcs : (j : ℕ) → ((partial_of w).harts j).fixed.pc < 2 ^ 32
    pub names : (n v : ℕ) → slice_index_or w.names n None ≡ Some v → (v < 2 ^ 32) × (is_in (sets_of t n) v ≡ true)
    pub listed : AreDroppedTo (length t.harts) 0 w.dropped (place_of_step k (length (records_of k w)))
    pub few : length w.dropped ≤ total w.traces * file_limits.atoms
    pub many : length w.names ≡ length t.names
    pub words : length w.words ≤ length t.words + total w.traces * 6

  fit_chosen : (k : ℕ) (w v : Whole) → IsChosen w v → IsFit k w → IsFit k v
  fit_chosen k w v is fit = record {
    records = ap_records is.1;
    pcs = λ j. subst (λ (x : Whole). ((partial_of x).harts j).fixed.pc < 2 ^ 32) (sym is.1) (fit.pcs j);
    names = λ n u h. fit.names n u (ap (λ (x : Whole). slice_index_or x.names n None) (sym is.1) ∙ h);
    listed = subst (λ (x : Whole). AreDroppedTo (length t.harts) 0 x.dropped (place_of_step k (length (records_of k x)))) (sym is.1) fit.listed;
    few = subst (λ (x : Whole). length x.dropped ≤ total x.traces * file_limits.atoms) (sym is.1) fit.few;
    words = subst (λ (x : Whole). length x.words ≤ length t.words + total x.traces * 6) (sym is.1) fit.words;
    many = ap (λ (x : Whole). length x.names) is.1 ∙ fit.many;
  }
    where
      ap_records : v ≡ with_choices is.0 w → AreRecords v.traces
      ap_records same = subst (λ (x : Whole). AreRecords x.traces) (sym same) fit.records

  -- the next piece is one of a hart from k on
  fit_up : (k j : ℕ) (w : Whole) → k ≤ j → total w.traces ≤ 8192 → IsFit k w → IsFit j w
  fit_up k j w le most fit = record {
    records = fit.records;
    pcs = fit.pcs;
    names = fit.names;
    listed = dropped_further (length t.harts) 0 w.dropped (place_of_step k (length (records_of k w))) (place_of_step j (length (records_of j w))) (up k j le (one_of_total w.traces k) most (cases_eq k j)) fit.listed;
    few = fit.few;
    words = fit.words;
    many = fit.many;
  }
    where
      up : (k j : ℕ) → k ≤ j → length (records_of k w) ≤ total w.traces → total w.traces ≤ 8192 → (k ≡ j) ⊎ (k ≡ j → ⊥) → place_of_step k (length (records_of k w)) ≤ place_of_step j (length (records_of j w))
      up k j le one most (inl same) = subst (λ (i : ℕ). place_of_step k (length (records_of k w)) ≤ place_of_step i (length (records_of i w))) same (omega arith)
      up k j le one most (inr apart) = omega (arith, le, one, most, below k j le apart)
        where
          below : (k j : ℕ) → k ≤ j → (k ≡ j → ⊥) → k < j
          below k j le apart = omega (arith, le, apart)

  total_step : (k : ℕ) (ws : List Wish) (old after : Whole) → IsStepDone (sets_of t) k ws old after → total after.traces ≡ total old.traces + 1
  total_step k ws old after done = ap total done.traces_are ∙ total_set old.traces k done.record_is done.room

  fit_step : (k : ℕ) (ws : List Wish) (old after : Whole) → IsStepDone (sets_of t) k ws old after → k < length t.harts → total old.traces < 8192 → IsFit k old → IsFit k after
  fit_step k ws old after done few most fit =
      let room : length (records_of k old) < file_limits.steps = (let one = one_of_total old.traces k in omega (arith, one, most)) in
      let dropped = done.dropped (length t.harts) few room in
      let step : length (records_of k after) ≡ length (records_of k old) + 1 = ap length done.told ∙ length_more (records_of k old) done.record_is in
      let sum = total_step k ws old after done in
      let more = dropped_few (length t.harts) (place_of_step k (length (records_of k old))) dropped.0 (place_of_step k (length (records_of k old) + 1)) dropped.2 in
      let size : length after.dropped ≡ length old.dropped + length dropped.0 = ap length dropped.1 ∙ length_append old.dropped dropped.0 in
      let before = fit.few in
      record {
        records = subst AreRecords (sym done.traces_are) (records_set old.traces k (records_of k old ++ done.record_is ∷ []) fit.records (all_more (records_of k old) done.record_is (records_at old.traces k fit.records) (fit_record done.record_is done.fit)));
        pcs = λ j. elim (cases_eq j k) [
          | inl same ↦ subst (λ (i : ℕ). ((partial_of after).harts i).fixed.pc < 2 ^ 32) (sym same) (subst (λ (n : ℕ). n < 2 ^ 32) (sym done.goes_to) done.fit.next_pc)
          | inr apart ↦ subst (λ (h : Held). h.fixed.pc < 2 ^ 32) (sym (done.others j apart).1) (fit.pcs j)
        ];
        names = λ n v h. elim (done.values n v h) [ inl old ↦ fit.names n v old | inr new ↦ new ];
        listed = subst (λ (ds : List Dropped). AreDroppedTo (length t.harts) 0 ds (place_of_step k (length (records_of k after)))) (sym dropped.1)
            (subst (λ (n : ℕ). AreDroppedTo (length t.harts) 0 (old.dropped ++ dropped.0) (place_of_step k n)) (sym step)
            (dropped_more (length t.harts) 0 old.dropped dropped.0 (place_of_step k (length (records_of k old))) (place_of_step k (length (records_of k old) + 1)) fit.listed dropped.2));
        few = few_more (length after.dropped) (length old.dropped) (length dropped.0) (total after.traces) (total old.traces) (place_of_step k (length (records_of k old))) (place_of_step k (length (records_of k old) + 1)) size sum before more (next_place k (length (records_of k old)));
        many = done.many ∙ fit.many;
        words = (let h = done.words in let so = fit.words in omega (arith, h, so, sum));
      }
    where
      length_append : (xs ys : List Dropped) → length (xs ++ ys) ≡ length xs + length ys
      length_append [] ys = omega arith
      length_append (x ∷ xs) ys = let h = length_append xs ys in omega (arith, h)

      next_place : (k n : ℕ) → place_of_step k (n + 1) ≡ place_of_step k n + 32
      next_place k n = omega arith

      few_more : (a b c x y p q : ℕ) → a ≡ b + c → x ≡ y + 1 → b ≤ y * 32 → p + c ≤ q → q ≡ p + 32 → a ≤ x * 32
      few_more a b c x y p q size sum before more next = omega (arith, size, sum, before, more, next)

  -- a label's name may have each word for its value
  label_in : (n v : ℕ) → count_in_head t.names ≤ n → n < length t.names → v < 2 ^ 32 → is_in (sets_of t n) v ≡ true
  label_in n v low lt small = go t.names keeps.order.values (slice_get t.names n) refl
    where
      in_all : (ds : List NameDecl) (n : ℕ) (d : NameDecl) → AllByRecursion IsFreeLabel ds → slice_get ds n ≡ Some d → IsFreeLabel d
      in_all [] n d all h = absurd (cc h)
      in_all (x ∷ ds) zero d all h = let same : x ≡ d = cc h in subst IsFreeLabel same all.0
      in_all (x ∷ ds) (suc n) d all h = in_all ds n d all.1 h

      there : (ds : List NameDecl) (n : ℕ) → n < length ds → slice_get ds n ≡ None → ⊥
      there [] n lt h = absurd (omega (arith, lt))
      there (x ∷ ds) zero lt h = absurd (cc h)
      there (x ∷ ds) (suc n) lt h = there ds n (omega (arith, lt)) h

      go : (ds : List NameDecl) → AllByRecursion IsFreeLabel ds → (o : Option NameDecl) → slice_get t.names n ≡ o → is_in (sets_of t n) v ≡ true
      go ds all None h = absurd (there t.names n lt h)
      go ds all (Some d) h =
          ap (λ (o : Option NameDecl). is_in (declared_set o) v) h
          ∙ in_all t.names n d keeps.order.values h (keeps.order.labels n d h ∙ le-leb (count_in_head t.names) n low) v small

  fit_label : (k n : ℕ) (w : Whole) → count_in_head t.names ≤ n → n < length t.names → IsFit k w → IsFit k (labelled k n w)
  fit_label k n w low lt fit = record {
    records = fit.records;
    pcs = fit.pcs;
    names = λ m v h. elim (value_was n (Some (hart_of k w).pc) w.names m v h) [
      | inl old ↦ fit.names m v old
      | inr new ↦
          let value : (hart_of k w).pc ≡ v = cc new.1 in
          let small : v < 2 ^ 32 = subst (λ (i : ℕ). i < 2 ^ 32) value (fit.pcs k) in
          (small, subst (λ (i : ℕ). is_in (sets_of t i) v ≡ true) new.0 (label_in n v low lt small))
    ];
    listed = fit.listed;
    few = fit.few;
    words = fit.words;
    many = many_with_name n (Some (hart_of k w).pc) w.names ∙ fit.many;
  }

  -- behind the step of the next piece
  record IsFitNext (j : ℕ) (w after : Whole) : Type 0 where
    pub fit : IsFit j after
    pub sum : total after.traces ≡ total w.traces + 1
    pub harts : length after.harts ≡ length t.harts

  fit_next : (k j : ℕ) (ws : List Wish) (w before after : Whole) → k ≤ j → total w.traces < 8192 → length w.harts ≡ length t.harts → IsChosen w before → j < length before.harts → IsStepDone (sets_of t) j ws before after → IsFit k w → IsFitNext j w after
  fit_next k j ws w before after up most harts is lt done fit =
      let traces : total before.traces ≡ total w.traces = ap (λ (x : Whole). total x.traces) is.1 in
      let own : length before.harts ≡ length t.harts = ap (λ (x : Whole). length x.harts) is.1 ∙ harts in
      let at_before : IsFit j before = fit_up k j before up (omega (arith, traces, most)) (fit_chosen k w before is fit) in
      let sum = total_step j ws before after done in
      record { fit = fit_step j ws before after done (omega (arith, lt, own)) (omega (arith, traces, most)) at_before; sum = omega (arith, sum, traces); harts = done.count ∙ own }

  pub fit_made : (last : Whole) (k : ℕ) (ps : List Tagged) (w : Whole) (m : ℕ) → AreUp k ps → AreInOrder ps m → count_in_head t.names ≤ m → total w.traces + records_of_pieces ps ≤ 8192 → length w.harts ≡ length t.harts
      → Made (sets_of t) last ps w → IsFit k w → (j : ℕ) × IsFit j last × (total last.traces ≡ total w.traces + records_of_pieces ps)
  fit_made last k [] w m up order low most harts made fit =
      (k, fit_chosen k w last made fit, ap (λ (x : Whole). total x.traces) made.1 ∙ plus_none (total w.traces))
    where
      plus_none : (n : ℕ) → n ≡ n + 0
      plus_none n = omega arith
  fit_made last k ((j, pieces.Leaf ws) ∷ ps) w m up order low most harts made fit =
      let next = fit_next k j ws w made.0 made.1 up.0 (omega (arith, most)) harts made.2 made.3 made.4.step fit in
      let sum = next.sum in
      let rest = fit_made last j ps made.1 order.0 up.1 order.3 (let h = order.1 in omega (arith, low, h)) (omega (arith, sum, most)) next.harts made.5 next.fit in
      let all = rest.2 in
      (rest.0, rest.1, omega (arith, all, sum))
  fit_made last k ((j, pieces.Label n) ∷ ps) w m up order low most harts made fit =
      let before : Whole = made.0 in
      let traces : total before.traces ≡ total w.traces = ap (λ (x : Whole). total x.traces) made.1.1 in
      let above : count_in_head t.names ≤ n = (let h = order.0 in omega (arith, low, h)) in
      let at_before : IsFit j before = fit_up k j before up.0 (omega (arith, traces, most)) (fit_chosen k w before made.1 fit) in
      let next : IsFit j (labelled j n before) = fit_label j n before above (let h = made.3 in let many = at_before.many in omega (arith, h, many)) at_before in
      let rest = fit_made last j ps (labelled j n before) (n + 1) up.1 order.1 (omega (arith, above)) (omega (arith, traces, most)) (ap (λ (x : Whole). length x.harts) made.1.1 ∙ harts) made.4 next in
      let all = rest.2 in
      (rest.0, rest.1, omega (arith, all, traces))
  fit_made last k ((j, pieces.FetchFault causes) ∷ ps) w m up order low most harts made fit =
      let next = fit_next k j [] w made.0 made.1 up.0 (omega (arith, most)) harts made.2 made.3 made.4.step fit in
      let sum = next.sum in
      let rest = fit_made last j ps made.1 m up.1 order low (omega (arith, sum, most)) next.harts made.5 next.fit in
      let all = rest.2 in
      (rest.0, rest.1, omega (arith, all, sum))
  fit_made last k ((j, pieces.Stuck) ∷ ps) w m up order low most harts made fit = absurd made

  -- ---- names as a certificate lists them

  pub names_listed : (from : ℕ) (os : List (Option ℕ)) → from + length os ≤ 2 ^ 32 → ((n v : ℕ) → slice_index_or os n None ≡ Some v → (v < 2 ^ 32) × (is_in (sets_of t (from + n)) v ≡ true)) → AreNamed t.names from (known_from from os)
  names_listed from [] few are = tt
  names_listed from (None ∷ os) few are =
      lower from (from + 1) (known_from (from + 1) os) (omega arith) (names_listed (from + 1) os (omega (arith, few)) (λ n v h. moved n v (are (suc n) v h)))
    where
      moved : (n v : ℕ) → (v < 2 ^ 32) × (is_in (sets_of t (from + suc n)) v ≡ true) → (v < 2 ^ 32) × (is_in (sets_of t (from + 1 + n)) v ≡ true)
      moved n v h = let same : from + suc n ≡ from + 1 + n = omega arith in (h.0, subst (λ (i : ℕ). is_in (sets_of t i) v ≡ true) same h.1)

      lower : (low more : ℕ) (es : List (ℕ × ℕ)) → low ≤ more → AreNamed t.names more es → AreNamed t.names low es
      lower low more [] le named = tt
      lower low more (e ∷ es) le named = ((let h = named.0 in omega (arith, le, h)), named.1, named.2, named.3, named.4)
  names_listed from (Some v ∷ os) few are =
      let own = are 0 v refl in
      let same : from + 0 ≡ from = omega arith in (
        omega arith,
        omega (arith, few),
        own.0,
        is_named (slice_get t.names from) v (subst (λ (i : ℕ). is_in (sets_of t i) v ≡ true) same own.1),
        names_listed (from + 1) os (omega (arith, few)) (λ n u h. moved n u (are (suc n) u h)),
      )
    where
      moved : (n v : ℕ) → (v < 2 ^ 32) × (is_in (sets_of t (from + suc n)) v ≡ true) → (v < 2 ^ 32) × (is_in (sets_of t (from + 1 + n)) v ≡ true)
      moved n v h = let same : from + suc n ≡ from + 1 + n = omega arith in (h.0, subst (λ (i : ℕ). is_in (sets_of t i) v ≡ true) same h.1)

      is_named : (o : Option NameDecl) (v : ℕ) → is_in (declared_set o) v ≡ true → IsNamed o v
      is_named None v h = absurd (cc h)
      is_named (Some d) v h = h
