-- The ways of a load or store over rows of its addresses, and those of its goals.
use Rattle.std.proofs.Common.{◌≡◌, ℕ, ◌+◌, ◌%◌, ◌^◌, ◌<◌, Bool, true, false, not, ◌&&◌, ◌||◌, ◌==◌, nat_eq, nat_lt, bit_and, if◌then◌else◌, List, [], ◌∷◌, map, Option, Some, None, refl, sym, ap, ◌∙◌, subst, inl, inr, ◌↔◌, ◌⊎◌, arith}
use Rattle.std.specs.List.{list_all, list_any}
use Rattle.std.proofs.lemmas.Bool.{and_from, and_parts, cases_Bool, eq-eqb, eqb-true, lt-ltb, ltb-true, not-true}
use Rattle.dom_set.specs.Elements.{is_in}
use Rattle.rv_isa.specs.declared.operation.Op.{Op}
use Rattle.rv_isa.specs.Fields.{is_load}
use Rattle.rv_isa.specs.Table.{row_of}
use Rattle.rv_csr.specs.declared.cause.Cause.{Cause}
use Rattle.rv_csr.specs.Causes.{number_of}
use Rattle.rv_script.specs.declared.place.Place.{Place}
use Rattle.rv_script.specs.declared.place.Place.TheVariants.{Word}
use Rattle.rv_script.specs.Bytes.{word_address}
use Rattle.rv_script.specs.Folds.{Entry}
use Rattle.rv_script.specs.Lists.{HasItem}
use Rattle.rv_script.specs.Logs.{by_answers, entry_place, log_of, same_place}
use Rattle.rv_script.specs.Script.{Question}
use Rattle.rv_script.proofs.Plays.{same_is}
use Rattle.sv_walk.specs.declared.entry.Kind.{Kind}
use Rattle.sv_walk.specs.Translation.{At, Fails as FailsWith, Reached, is_in_ram}
use Rattle.sv_walk.proofs.Offsets.{offset_kept}
use Rattle.row_parts.specs.Gaps.{counts}
use Rattle.addr_rows.specs.Walks.{EntryRow, Faults, Leads, RowEnd, end_at, entry_answers}
use Rattle.rv_hart.specs.Machine.{data_view, size_of}
use Rattle.tpl_ast.specs.declared.template.Atom.{Atom}
use Rattle.tpl_ast.specs.declared.template.Var.TheVariants as vars
use Rattle.fd_prob.specs.declared.slot.Slot.{Slot}
use Rattle.fd_prob.specs.declared.slot.Slot.TheVariants as slots
use Rattle.data_bytes.specs.declared.starts.DataAccess.TheVariants.{Load, Store}
use Rattle.data_bytes.specs.Starts.{IsSize, barred_of, is_open}
use Rattle.data_ways.specs.declared.way.DataEnd.{DataEnd}
use Rattle.data_ways.specs.declared.way.DataEnd.TheVariants as ends
use Rattle.data_ways.specs.declared.way.DataWay.{DataWay}
use Rattle.data_ways.specs.Ways.{AreDataWays, is_off, keeps, kind_of, reached_by}
use Rattle.rv_mem.specs.Frames.{in_frames}
use Rattle.leaf_link.specs.Turns.{Turn, is_free_entry, word_address_of}
use Rattle.leaf_link.specs.Values.{Values}
use Rattle.leaf_link.specs.Cases.{Way, all_tests, is_some_word}
use Rattle.leaf_link.specs.Kinds.{traps_when, vector_alone}
use Rattle.leaf_link.specs.Reaching.{AreRows, Walks, data_keeps, data_new, data_walk, data_ways, fault_new, in_row, is_aligned, is_data_word, not_code, not_walked, walk_keeps, way_of, way_to}
use Rattle.leaf_link.specs.Ways.{FitsWay, HasWay}
use Rattle.leaf_link.proofs.Reaching.{HasLabels, by_values, in_map, map_in}
use Rattle.leaf_link.proofs.Front.{all_hold, hold_all}
use Rattle.data_goals.specs.declared.accesses.Accesses.{Accesses}
use Rattle.data_goals.specs.declared.goal.Goal.{Goal}
use Rattle.data_goals.specs.declared.goal.Goal.TheVariants.{Misaligned, Fails, Known, Fresh}
use Rattle.data_goals.specs.Grounds.{HasAccesses, is_walked}
use Rattle.data_goals.specs.Goals.{access_of, address_test, cause_of, end_test, goal_test, goal_way, goal_ways, goals_by, is_aligned_to, leads_to, misses, target_test, way_in, ways_for, ways_through}
use Rattle.data_goals.specs.Laws.{AreSmall, has_code}
use Rattle.data_goals.proofs.Freedom.{IsAccess, may_go}
use Rattle.data_goals.proofs.Entries.{AreEntries, fails_so, leads_inside, new_in_tables, walk_entries}
use Rattle.data_goals.proofs.Memory.{fresh_in, has_value, known_in, may_be_data, or_true, value_code}
use Rattle.data_goals.proofs.Through.{in_through, through_has}

-- LISTS OF ENTRIES
none_any : {A : Type 0} (test : A → Bool) (xs : List A) → ((x : A) → HasItem xs x → test x ≡ false) → list_any test xs ≡ false
none_any test [] h = refl
none_any test (x ∷ xs) h = ap (λ (b : Bool). b || list_any test xs) (h x (inl refl)) ∙ none_any test xs (λ y i. h y (inr i))

any_none : {A : Type 0} (test : A → Bool) (xs : List A) → list_any test xs ≡ false → (x : A) → HasItem xs x → test x ≡ false
any_none test [] h x i = absurd i
any_none test (y ∷ xs) h x i = elim (cases_Bool (test y)) [
  | inl passes ↦ let none : (true || list_any test xs) ≡ false = ap (λ (b : Bool). b || list_any test xs) (sym passes) ∙ h in absurd (cc)
  | inr fails ↦ elim i [
    | inl here ↦ ap test (sym here) ∙ fails
    | inr there ↦ any_none test xs (ap (λ (b : Bool). b || list_any test xs) (sym fails) ∙ h) x there
  ]
]

-- the data word, by whether it has a value
abbrev word_by : Turn → Values → ℕ → Bool → Bool
word_by t x p value = if value then nat_eq (x slots.DataWord) 0 else (nat_lt (x slots.DataWord) (2 ^ 32) && in_frames t.pool (word_address p))

right_true : (b c : Bool) → c ≡ true → (b || c) ≡ true
right_true true c h = refl
right_true false c h = h

aligned_both : (size p ea : ℕ) → IsSize size → p % 4 ≡ ea % 4 → nat_eq (ea % size) 0 ≡ true → nat_eq (p % size) 0 ≡ true
aligned_both size p ea (inl h) same at = eq-eqb (p % size) 0 (ap (λ (n : ℕ). p % n) h ∙ omega arith)
aligned_both size p ea (inr (inl h)) same at = (let e : ea % 2 ≡ 0 = sym (ap (λ (n : ℕ). ea % n) h) ∙ eqb-true _ _ at in eq-eqb (p % size) 0 (ap (λ (n : ℕ). p % n) h ∙ omega (arith, same, e)))
aligned_both size p ea (inr (inr h)) same at = (let e : ea % 4 ≡ 0 = sym (ap (λ (n : ℕ). ea % n) h) ∙ eqb-true _ _ at in eq-eqb (p % size) 0 (ap (λ (n : ℕ). p % n) h ∙ omega (arith, same, e)))

-- WHAT IS ASKED OF A WALK
keep_parts : (t : Turn) (load : Bool) (log : List Entry) (p : ℕ) → keeps t (if load then Load else Store) log (At p) ≡ true → (list_all (is_free_entry t) log ≡ true) × (load ≡ false → is_off t log p ≡ true)
keep_parts t true log p h = (h, λ e. absurd (cc e))
keep_parts t false log p h = (let d = and_parts (list_all (is_free_entry t) log) (is_off t log p) h in (d.0, λ e. d.1))

keep_from : (t : Turn) (load : Bool) (log : List Entry) (p : ℕ) → list_all (is_free_entry t) log ≡ true → (load ≡ false → is_off t log p ≡ true) → keeps t (if load then Load else Store) log (At p) ≡ true
keep_from t true log p h k = h
keep_from t false log p h k = and_from _ _ h (k refl)

keep_fails : (t : Turn) (load : Bool) (log : List Entry) (cause : Cause) → keeps t (if load then Load else Store) log (FailsWith cause) ≡ list_all (is_free_entry t) log
keep_fails t true log cause = refl
keep_fails t false log cause = refl

off_parts : (b c : Bool) → (b || c) ≡ true → b ≡ false → c ≡ true
off_parts true c h e = absurd (cc)
off_parts false c h e = h

off_from : (b c : Bool) → (b ≡ false → c ≡ true) → (b || c) ≡ true
off_from true c h = refl
off_from false c h = h refl

known_entry : (o : Option ℕ) (same : Bool) → (not (is_some_word o) || not same) ≡ true → (o ≡ None → same ≡ false) → same ≡ false
known_entry (Some v) same h k = not-true same h
known_entry None same h k = k refl

some_or : (o : Option ℕ) (b : Bool) → (o ≡ None → b ≡ true) → (is_some_word o || b) ≡ true
some_or (Some v) b h = refl
some_or None b h = h refl

word_is : {n m : ℕ} → Word n ≡ Word m → n ≡ m
word_is {n} {m} h = ap word_address_of h

false_not : (b : Bool) → b ≡ true → b ≡ false → ⊥
false_not b h k = absurd (cc)

end_leads : (end : RowEnd) (ea p : ℕ) → end_at end ea ≡ At p → (to : ℕ → ℕ) × (end ≡ Leads to) × (to ea ≡ p)
end_leads (Leads to) ea p h = (to, refl, cc)
end_leads (Faults cause) ea p h = absurd (cc)

end_faults : (end : RowEnd) (ea : ℕ) (cause : Cause) → end_at end ea ≡ FailsWith cause → end ≡ Faults cause
end_faults (Leads to) ea cause h = absurd (cc)
end_faults (Faults other) ea cause h = (let e : other ≡ cause = cc in ap (λ (c : Cause). Faults c) e)

way_leads : (end : DataEnd) (ea p : ℕ) → reached_by end ea ≡ At p → (base : ℕ) × (mask : ℕ) × (end ≡ ends.At base mask) × ((base + bit_and ea mask) % 2 ^ 32 ≡ p)
way_leads (ends.At base mask) ea p h = (base, mask, refl, cc)
way_leads (ends.Fails cause) ea p h = absurd (cc)

way_faults : (end : DataEnd) (ea : ℕ) (cause : Cause) → reached_by end ea ≡ FailsWith cause → end ≡ ends.Fails cause
way_faults (ends.At base mask) ea cause h = absurd (cc)
way_faults (ends.Fails other) ea cause h = (let e : other ≡ cause = cc in ap (λ (c : Cause). ends.Fails c) e)

module _ (t : Turn) (walk : List Entry) (pa : ℕ) (a : Accesses) (leaf : List Atom) (op : Op) (kind : Kind) (misaligned : Cause) (question : Values → ℕ → Question) (apart : Values → ℕ → Bool) (rows : List EntryRow)
    (is : IsAccess t a op kind misaligned question apart) (has : HasAccesses t walk pa a) (code : has_code t pa ≡ true) (rows_are : AreRows t (is_in a.pages) kind rows) (ways_are : AreDataWays t (access_of op) (is_in a.pages) (ways_for a op))
    (kinds : kind_of (access_of op) ≡ kind) (labels : HasLabels kind) (x : Values) (small : AreSmall x) where
  abbrev HasPage : Type 0
  HasPage = is_in a.pages (x slots.Ea) ≡ true

  abbrev Leading : List Entry → Reached → Type 0
  Leading log end = Walks t kind (x slots.Ea) (x slots.FirstPte) (x slots.SecondPte) log end

  walk_is : (log : List Entry) (end : Reached) → Leading log end → data_walk t kind x ≡ log
  walk_is log end w = ap log_of (by_values t kind x log end labels w.plays)

  are_entries : (log : List Entry) (end : Reached) → Leading log end → AreEntries log
  are_entries log end w = walk_entries t.fixed.ram (data_view t.fixed) kind (x slots.Ea) (by_answers t.known (entry_answers (x slots.FirstPte) (x slots.SecondPte))) log end w.plays

  inside : (log : List Entry) (p : ℕ) → Leading log (At p) → is_in_ram t.fixed.ram p ≡ true
  inside log p w = leads_inside t.fixed.ram (data_view t.fixed) kind (x slots.Ea) (by_answers t.known (entry_answers (x slots.FirstPte) (x slots.SecondPte))) log p w.plays

  below : (log : List Entry) (p : ℕ) → Leading log (At p) → p < 2 ^ 32
  below log p w = ltb-true p (2 ^ 32) (and_parts (nat_lt p (2 ^ 32)) _ (inside log p w)).0

  aligned_there : (log : List Entry) (p : ℕ) → Leading log (At p) → is_aligned op x ≡ true → is_aligned_to op p ≡ true
  aligned_there log p w at =
      aligned_both (size_of op) p (x slots.Ea) is.size (offset_kept t.fixed.ram (data_view t.fixed) kind (x slots.Ea) (by_answers t.known (entry_answers (x slots.FirstPte) (x slots.SecondPte))) log p w.plays) at

  -- NEW ENTRIES
  in_table : (log : List Entry) (end : Reached) → Leading log end → (e : Entry) → HasItem log e → t.known (entry_place e) ≡ None → in_frames t.tables (word_address_of (entry_place e)) ≡ true
  in_table log end w e i none =
      let any : Rattle.rv_isa.specs.declared.instruction.Instr.Instr = record { op = op; rd = 0; rs1 = 0; rs2 = 0; imm = 0; csr = 0 } in
      new_in_tables t any e.question e.value (are_entries log end w e i) (w.may any e i none)

  -- an address of data: its word has a value, or is one of the pool
  abbrev IsData : ℕ → Type 0
  IsData p = (has_value t p ≡ true) ⊎ (in_frames t.pool (word_address p) ≡ true)

  differs : (log : List Entry) (end : Reached) → Leading log end → (p : ℕ) → IsData p → (e : Entry) → HasItem log e → t.known (entry_place e) ≡ None → same_place (entry_place e) (Word (word_address p)) ≡ false
  differs log end w p data_is e i none = elim (cases_Bool (same_place (entry_place e) (Word (word_address p)))) [
    | inl y ↦
        let at : entry_place e ≡ Word (word_address p) = same_is (entry_place e) (Word (word_address p)) y in
        absurd (elim data_is [
          | inl value ↦ false_not (has_value t p) value (ap is_some_word (ap t.known (sym at) ∙ none))
          | inr pool ↦ false_not (in_frames t.pool (word_address p)) pool (has.apart (word_address p) (ap (λ (q : Place). in_frames t.tables (word_address_of q)) (sym at) ∙ in_table log end w e i none))
        ])
    | inr n ↦ n
  ]

  off_walked : (log : List Entry) (p : ℕ) → is_walked log p ≡ false → is_off t log p ≡ true
  off_walked log p h = hold_all _ log (λ e i. right_true (not (is_some_word (t.known (entry_place e)))) _ (ap not (any_none _ log h e i)))

  walked_off : (log : List Entry) (end : Reached) → Leading log end → (p : ℕ) → IsData p → is_off t log p ≡ true → is_walked log p ≡ false
  walked_off log end w p data_is h = none_any _ log (λ e i. known_entry (t.known (entry_place e)) (same_place (entry_place e) (Word (word_address p))) (all_hold _ log h e i) (λ none. differs log end w p data_is e i none))

  not_walked_is : (log : List Entry) (end : Reached) → Leading log end → (p : ℕ) → IsData p → not_walked t (Word (word_address p)) log ≡ true
  not_walked_is log end w p data_is = hold_all _ log (λ e i. some_or (t.known (entry_place e)) _ (λ none. ap not (differs log end w p data_is e i none)))

  -- none is the new fetched word
  not_fetched : (log : List Entry) (end : Reached) → Leading log end → (e : Entry) → HasItem log e → not_code t pa (entry_place e) ≡ true
  not_fetched log end w e i = some_or (t.known (Word pa)) _ (λ new. elim (cases_Bool (same_place (Word pa) (entry_place e))) [
    | inl y ↦
        let at : Word pa ≡ entry_place e = same_is (Word pa) (entry_place e) y in
        let table : in_frames t.tables pa ≡ true = ap (λ (q : Place). in_frames t.tables (word_address_of q)) at ∙ in_table log end w e i (ap t.known (sym at) ∙ new) in
        let pool : in_frames t.pool pa ≡ true = sym (ap (λ (o : Option ℕ). is_some_word o || in_frames t.pool pa) new) ∙ code in
        absurd (false_not (in_frames t.pool pa) pool (has.apart pa table))
    | inr n ↦ ap not n
  ])

  keeps_walk : (log : List Entry) (end : Reached) → Leading log end → list_all (is_free_entry t) log ≡ true → walk_keeps t pa log ≡ true
  keeps_walk log end w free = hold_all _ log (λ e i. and_from _ _ (all_hold (is_free_entry t) log free e i) (not_fetched log end w e i))

  walk_free : (log : List Entry) → walk_keeps t pa log ≡ true → list_all (is_free_entry t) log ≡ true
  walk_free log h = hold_all _ log (λ e i. (and_parts (is_free_entry t e) _ (all_hold _ log h e i)).0)

  -- AN ADDRESS THAT LEADS TO DATA
  record IsReached (p : ℕ) : Type 0 where
    old : nat_eq (x slots.OldCsr) 0 ≡ true
    vector : nat_eq (x slots.Vector) 0 ≡ true
    aligned : is_aligned op x ≡ true
    log : List Entry
    leads : Leading log (At p)
    free : list_all (is_free_entry t) log ≡ true
    goes : may_go a op p ≡ true
    off : is_load (row_of op) ≡ false → is_off t log p ≡ true
    word : is_data_word t p (x slots.DataWord) ≡ true
    fresh : not_code t pa (Word (word_address p)) ≡ true
    wanted : all_tests t leaf vars.Pa p ≡ true

  data_there : (p : ℕ) → is_data_word t p (x slots.DataWord) ≡ true → IsData p
  data_there p h = elim (cases_Bool (has_value t p)) [
    | inl value ↦ inl value
    | inr none ↦ inr (and_parts (nat_lt (x slots.DataWord) (2 ^ 32)) _ (sym (ap (word_by t x p) none) ∙ h)).1
  ]

  may_there : (log : List Entry) (p : ℕ) → Leading log (At p) → is_data_word t p (x slots.DataWord) ≡ true → not_code t pa (Word (word_address p)) ≡ true → may_be_data a.bytes p ≡ true
  may_there log p w word new = elim (cases_Bool (has_value t p)) [
    | inl value ↦ ap (λ (b : Bool). b || is_in a.bytes.fresh p) (known_in t walk pa a has p (below log p w) ∙ value)
    | inr none ↦
        let pool = (and_parts (nat_lt (x slots.DataWord) (2 ^ 32)) _ (sym (ap (word_by t x p) none) ∙ word)).1 in
        ap (λ (b : Bool). is_in a.bytes.known p || b) (fresh_in t walk pa a has p (below log p w) ∙ and_from _ _ (and_from _ _ (inside log p w) (ap not none)) (and_from _ _ pool new)) ∙ or_true _
  ]

  free_is : (log : List Entry) (p : ℕ) → (w : Leading log (At p)) → is_aligned op x ≡ true → may_be_data a.bytes p ≡ true
      → (is_free_entry t (record { question = question x p; value = 0 }) && apart x p) ≡ (may_go a op p && (is_load (row_of op) || not (is_walked log p)))
  free_is log p w at may = is.free x p log (below log p w) (aligned_there log p w at) may (walk_is log (At p) w) (are_entries log (At p) w)

  -- OVER ROWS
  from_row : (row : EntryRow) → HasItem rows row → (to : ℕ → ℕ) → row.end ≡ Leads to → FitsWay (way_to t pa leaf op kind question apart row (Leads to)) x → IsReached (to (x slots.Ea))
  from_row row i to leads f =
      let p : ℕ = to (x slots.Ea) in
      let h = and_parts (in_row op row x) _ f.holds in
      let in_it = and_parts (is_aligned op x) _ h.0 in
      let s = rows_are.sound row i (x slots.Ea) (x slots.FirstPte) (x slots.SecondPte) (small slots.Ea) in_it.1 in
      let w : Leading s.0 (At p) = subst (λ (end : RowEnd). Leading s.0 (end_at end (x slots.Ea))) leads s.1 in
      let same : data_walk t kind x ≡ s.0 = walk_is s.0 (At p) w in
      let k = and_parts (walk_keeps t pa (data_walk t kind x)) _ h.1 in
      let free : list_all (is_free_entry t) s.0 ≡ true = walk_free s.0 (ap (walk_keeps t pa) (sym same) ∙ k.0) in
      let d = and_parts (data_keeps t pa leaf question (data_walk t kind x) x p) (apart x p) k.1 in
      let d1 = and_parts (is_free_entry t (record { question = question x p; value = 0 })) _ d.0 in
      let d2 = and_parts (is_data_word t p (x slots.DataWord)) _ d1.1 in
      let d3 = and_parts (not_code t pa (Word (word_address p))) _ d2.1 in
      let d4 = and_parts (not_walked t (Word (word_address p)) (data_walk t kind x)) _ d3.1 in
      let may : may_be_data a.bytes p ≡ true = may_there s.0 p w d2.0 d3.0 in
      let go = and_parts (may_go a op p) _ (sym (free_is s.0 p w in_it.0 may) ∙ and_from _ _ d1.0 d.1) in
      record {
        old = f.each slots.OldCsr;
        vector = f.each slots.Vector;
        aligned = in_it.0;
        log = s.0;
        leads = w;
        free = free;
        goes = go.0;
        off = λ store. off_walked s.0 p (not-true _ (off_parts (is_load (row_of op)) (not (is_walked s.0 p)) go.1 store));
        word = d2.0;
        fresh = d3.0;
        wanted = d4.1;
      }

  new_data : nat_eq (x slots.OldCsr) 0 ≡ true → nat_eq (x slots.Vector) 0 ≡ true → (slot : Slot) → data_new slot (x slot) ≡ true
  new_data old vector slots.OldCsr = old
  new_data old vector slots.Vector = vector
  new_data old vector _ = refl

  record Through (way : Way) : Type 0 where
    other : Way
    among : HasItem (map (way_of t pa leaf op kind question apart) rows) other
    fits : FitsWay other x
    outcome : other.outcome ≡ way.outcome
    reaches : other.reaches ≡ way.reaches

  to_row : HasPage → (p : ℕ) → IsReached p → (way : Way) → way.outcome ≡ 255 → way.reaches ≡ true → Through way
  to_row page p r way ended reaching =
      let c = rows_are.complete (x slots.Ea) (x slots.FirstPte) (x slots.SecondPte) r.log (At p) (small slots.Ea) page r.leads in
      let row : EntryRow = c.0 in
      let e = end_leads row.end (x slots.Ea) p c.3 in
      let to : ℕ → ℕ = e.0 in
      let data_is : IsData p = data_there p r.word in
      let same : data_walk t kind x ≡ r.log = walk_is r.log (At p) r.leads in
      let off : (is_load (row_of op) || not (is_walked r.log p)) ≡ true = off_from (is_load (row_of op)) _ (λ store. ap not (walked_off r.log (At p) r.leads p data_is (r.off store))) in
      let fa = and_parts (is_free_entry t (record { question = question x p; value = 0 })) (apart x p) (free_is r.log p r.leads r.aligned (may_there r.log p r.leads r.word r.fresh) ∙ and_from _ _ r.goes off) in
      let keeps_it : (walk_keeps t pa (data_walk t kind x) && (data_keeps t pa leaf question (data_walk t kind x) x p && apart x p)) ≡ true =
      ap (λ (l : List Entry). walk_keeps t pa l && (data_keeps t pa leaf question l x p && apart x p)) same
      ∙ and_from _ _ (keeps_walk r.log (At p) r.leads r.free) (and_from _ _ (and_from _ _ fa.0 (and_from _ _ r.word (and_from _ _ r.fresh (and_from _ _ (not_walked_is r.log (At p) r.leads p data_is) r.wanted)))) fa.1) in
      let fits : FitsWay (way_to t pa leaf op kind question apart row (Leads to)) x = record {
        each = new_data r.old r.vector;
        holds = and_from _ _ (and_from _ _ r.aligned c.2) (ap (λ (n : ℕ). walk_keeps t pa (data_walk t kind x) && (data_keeps t pa leaf question (data_walk t kind x) x n && apart x n)) e.2 ∙ keeps_it);
      } in
      let one : way_of t pa leaf op kind question apart row ≡ way_to t pa leaf op kind question apart row (Leads to) = ap (way_to t pa leaf op kind question apart row) e.1 in
      record {
        other = way_of t pa leaf op kind question apart row;
        among = map_in (way_of t pa leaf op kind question apart) rows row c.1;
        fits = subst (λ (w : Way). FitsWay w x) (sym one) fits;
        outcome = ap (λ (w : Way). w.outcome) one ∙ sym ended;
        reaches = ap (λ (w : Way). w.reaches) one ∙ sym reaching;
      }

  -- OVER GOALS
  record HasGoal (outcome : ℕ) (reaches : Bool) : Type 0 where
    goal : Way
    among : HasItem (goal_ways t a leaf op) goal
    fits : FitsWay goal x
    outcome_is : goal.outcome ≡ outcome
    reaches_is : goal.reaches ≡ reaches

  -- the tests of a goal that retires
  abbrev retires_so : DataWay → Goal → Type 0
  retires_so way goal = (slot : Slot) → (end_test t None slot (x slot) && goal_test a op way (all_tests t leaf vars.Pa) goal slot (x slot)) ≡ true

  retiring : (way : DataWay) (goal : Goal) → nat_eq (x slots.OldCsr) 0 ≡ true → nat_eq (x slots.Vector) 0 ≡ true → ((slot : Slot) → goal_test a op way (all_tests t leaf vars.Pa) goal slot (x slot) ≡ true) → retires_so way goal
  retiring way goal old vector each slots.OldCsr = and_from _ _ old (each slots.OldCsr)
  retiring way goal old vector each slots.Vector = and_from _ _ vector (each slots.Vector)
  retiring way goal old vector each slot = and_from _ _ refl (each slot)

  abbrev tested : DataWay → Goal → Type 0
  tested way goal = (slot : Slot) → goal_test a op way (all_tests t leaf vars.Pa) goal slot (x slot) ≡ true

  known_tests : (way : DataWay) → address_test a op way (all_tests t leaf vars.Pa) Known (x slots.Ea) ≡ true → is_in way.first (x slots.FirstPte) ≡ true → is_in way.second (x slots.SecondPte) ≡ true → nat_eq (x slots.DataWord) 0 ≡ true → tested way Known
  known_tests way ea first second word slots.Ea = ea
  known_tests way ea first second word slots.FirstPte = first
  known_tests way ea first second word slots.SecondPte = second
  known_tests way ea first second word slots.DataWord = word
  known_tests way ea first second word _ = refl

  fresh_tests : (way : DataWay) → address_test a op way (all_tests t leaf vars.Pa) Fresh (x slots.Ea) ≡ true → is_in way.first (x slots.FirstPte) ≡ true → is_in way.second (x slots.SecondPte) ≡ true → tested way Fresh
  fresh_tests way ea first second slots.Ea = ea
  fresh_tests way ea first second slots.FirstPte = first
  fresh_tests way ea first second slots.SecondPte = second
  fresh_tests way ea first second slots.DataWord = refl
  fresh_tests way ea first second _ = refl

  in_goals : (way : DataWay) (goal : Goal) → HasItem (ways_for a op) way → HasItem (goals_by way.end) goal → HasItem (goal_ways t a leaf op) (goal_way t a leaf op way goal)
  in_goals way goal i j = inr (in_through t a leaf op (ways_for a op) way goal i j)

  -- the goals of an end that leads somewhere
  at_goals : (end : DataEnd) (base mask : ℕ) → end ≡ ends.At base mask → HasItem (goals_by end) Known × HasItem (goals_by end) Fresh
  at_goals end base mask h = (subst (λ (e : DataEnd). HasItem (goals_by e) Known) (sym h) (inl refl), subst (λ (e : DataEnd). HasItem (goals_by e) Fresh) (sym h) (inr (inl refl)))

  to_goal : HasPage → (p : ℕ) → IsReached p → HasGoal 255 true
  to_goal page p r =
      let load : Bool = is_load (row_of op) in
      let walks : Walks t (kind_of (access_of op)) (x slots.Ea) (x slots.FirstPte) (x slots.SecondPte) r.log (At p) = subst (λ (k : Kind). Walks t k (x slots.Ea) (x slots.FirstPte) (x slots.SecondPte) r.log (At p)) (sym kinds) r.leads in
      let c = ways_are.complete (x slots.Ea) (x slots.FirstPte) (x slots.SecondPte) r.log (At p) (small slots.Ea) page walks (keep_from t load r.log p r.free r.off) in
      let way : DataWay = c.0 in
      let e = way_leads way.end (x slots.Ea) p c.6 in
      let goals = at_goals way.end e.0 e.1 e.2 in
      let g = and_parts (is_open (barred_of a.bytes (access_of op)) (size_of op) p) _ r.goes in
      let leads = λ (words : ℕ → Bool) (held : words p ≡ true).
      ap (λ (end : DataEnd). leads_to end (target_test a op words (all_tests t leaf vars.Pa)) (x slots.Ea)) e.2
      ∙ ap (target_test a op words (all_tests t leaf vars.Pa)) e.3
      ∙ and_from _ _ (and_from _ _ (and_from _ _ held g.0) r.wanted) g.1 in
      elim (cases_Bool (has_value t p)) [
        | inl value ↦
            record {
              goal = goal_way t a leaf op way Known;
              among = in_goals way Known c.1 goals.0;
              fits = record {
                each = retiring way Known r.old r.vector (known_tests way (and_from _ _ (and_from _ _ (and_from _ _ c.2 c.3) r.aligned) (leads (is_in a.bytes.known) (known_in t walk pa a has p (below r.log p r.leads) ∙ value))) c.4 c.5 (sym (ap (word_by t x p) value) ∙ r.word));
                holds = refl;
              };
              outcome_is = refl;
              reaches_is = refl;
            }
        | inr none ↦
            let pool = (and_parts (nat_lt (x slots.DataWord) (2 ^ 32)) _ (sym (ap (word_by t x p) none) ∙ r.word)).1 in
            let held : is_in a.bytes.fresh p ≡ true = fresh_in t walk pa a has p (below r.log p r.leads) ∙ and_from _ _ (and_from _ _ (inside r.log p r.leads) (ap not none)) (and_from _ _ pool r.fresh) in
            record {
              goal = goal_way t a leaf op way Fresh;
              among = in_goals way Fresh c.1 goals.1;
              fits = record { each = retiring way Fresh r.old r.vector (fresh_tests way (and_from _ _ (and_from _ _ (and_from _ _ c.2 c.3) r.aligned) (leads (is_in a.bytes.fresh) held)) c.4 c.5); holds = refl };
              outcome_is = refl;
              reaches_is = refl;
            }
      ]

  -- what both goals say
  record IsAimed (way : DataWay) (words : ℕ → Bool) : Type 0 where
    p : ℕ
    leads_there : reached_by way.end (x slots.Ea) ≡ At p
    aligned : is_aligned op x ≡ true
    log : List Entry
    leads : Leading log (At p)
    free : list_all (is_free_entry t) log ≡ true
    off : is_load (row_of op) ≡ false → is_off t log p ≡ true
    held : words p ≡ true
    goes : may_go a op p ≡ true
    wanted : all_tests t leaf vars.Pa p ≡ true

  aims : (way : DataWay) → HasItem (ways_for a op) way → (words : ℕ → Bool) → ((way_in way (x slots.Ea) && is_aligned_to op (x slots.Ea)) && leads_to way.end (target_test a op words (all_tests t leaf vars.Pa)) (x slots.Ea)) ≡ true
      → is_in way.first (x slots.FirstPte) ≡ true → is_in way.second (x slots.SecondPte) ≡ true → IsAimed way words
  aims way i words ea first second =
      let d = and_parts (way_in way (x slots.Ea) && is_aligned_to op (x slots.Ea)) _ ea in
      let own = and_parts (way_in way (x slots.Ea)) (is_aligned_to op (x slots.Ea)) d.0 in
      let at = and_parts (counts way.apart (x slots.Ea)) (is_in way.ea (x slots.Ea)) own.0 in
      let s = ways_are.sound way i (x slots.Ea) (x slots.FirstPte) (x slots.SecondPte) (small slots.Ea) at.0 at.1 first second in
      go way.end refl s.0 s.1 s.2 d.1 own.1
    where
      go : (end : DataEnd) → way.end ≡ end → (log : List Entry) → Walks t (kind_of (access_of op)) (x slots.Ea) (x slots.FirstPte) (x slots.SecondPte) log (reached_by way.end (x slots.Ea)) → keeps t (access_of op) log (reached_by way.end (x slots.Ea)) ≡ true
          → leads_to way.end (target_test a op words (all_tests t leaf vars.Pa)) (x slots.Ea) ≡ true → is_aligned_to op (x slots.Ea) ≡ true → IsAimed way words
      go (ends.At base mask) same log w k target at =
          let q : ℕ = (base + bit_and (x slots.Ea) mask) % 2 ^ 32 in
          let there : reached_by way.end (x slots.Ea) ≡ At q = ap (λ (e : DataEnd). reached_by e (x slots.Ea)) same in
          let keep = keep_parts t (is_load (row_of op)) log q (ap (λ (r : Reached). keeps t (access_of op) log r) (sym there) ∙ k) in
          let aim = and_parts _ _ (ap (λ (e : DataEnd). leads_to e (target_test a op words (all_tests t leaf vars.Pa)) (x slots.Ea)) (sym same) ∙ target) in
          let aim2 = and_parts _ _ aim.0 in
          let aim3 = and_parts (words q) _ aim2.0 in
          record {
            p = q;
            leads_there = there;
            aligned = at;
            log = log;
            leads = subst (λ (r : Reached). Leading log r) there (subst (λ (z : Kind). Walks t z (x slots.Ea) (x slots.FirstPte) (x slots.SecondPte) log (reached_by way.end (x slots.Ea))) kinds w);
            free = keep.0;
            off = keep.1;
            held = aim3.0;
            goes = and_from _ _ aim3.1 aim.1;
            wanted = aim2.1;
          }
      go (ends.Fails cause) same log w k target at =
          let none : false ≡ true = ap (λ (e : DataEnd). leads_to e (target_test a op words (all_tests t leaf vars.Pa)) (x slots.Ea)) (sym same) ∙ target in
          absurd (cc)

  from_known : (way : DataWay) → HasItem (ways_for a op) way → FitsWay (goal_way t a leaf op way Known) x → (p : ℕ) × IsReached p
  from_known way i f =
      let each = λ (slot : Slot). (and_parts (end_test t None slot (x slot)) _ (f.each slot)).1 in
      let m = aims way i (is_in a.bytes.known) (each slots.Ea) (each slots.FirstPte) (each slots.SecondPte) in
      let value : has_value t m.p ≡ true = sym (known_in t walk pa a has m.p (below m.log m.p m.leads)) ∙ m.held in (
        m.p,
        record {
          old = (and_parts (nat_eq (x slots.OldCsr) 0) _ (f.each slots.OldCsr)).0;
          vector = (and_parts (nat_eq (x slots.Vector) 0) _ (f.each slots.Vector)).0;
          aligned = m.aligned;
          log = m.log;
          leads = m.leads;
          free = m.free;
          goes = m.goes;
          off = m.off;
          word = ap (word_by t x m.p) value ∙ each slots.DataWord;
          fresh = value_code t pa m.p value;
          wanted = m.wanted;
        },
      )

  from_fresh : (way : DataWay) → HasItem (ways_for a op) way → FitsWay (goal_way t a leaf op way Fresh) x → (p : ℕ) × IsReached p
  from_fresh way i f =
      let each = λ (slot : Slot). (and_parts (end_test t None slot (x slot)) _ (f.each slot)).1 in
      let m = aims way i (is_in a.bytes.fresh) (each slots.Ea) (each slots.FirstPte) (each slots.SecondPte) in
      let parts = and_parts _ _ (sym (fresh_in t walk pa a has m.p (below m.log m.p m.leads)) ∙ m.held) in
      let there = and_parts (is_in_ram t.fixed.ram m.p) _ parts.0 in
      let begin = and_parts (in_frames t.pool (word_address m.p)) _ parts.1 in (
        m.p,
        record {
          old = (and_parts (nat_eq (x slots.OldCsr) 0) _ (f.each slots.OldCsr)).0;
          vector = (and_parts (nat_eq (x slots.Vector) 0) _ (f.each slots.Vector)).0;
          aligned = m.aligned;
          log = m.log;
          leads = m.leads;
          free = m.free;
          goes = m.goes;
          off = m.off;
          word = ap (word_by t x m.p) (not-true _ there.1) ∙ and_from _ _ (lt-ltb _ _ (small slots.DataWord)) begin.0;
          fresh = begin.1;
          wanted = m.wanted;
        },
      )

  -- AN ADDRESS THAT FAILS
  record IsFailing (cause : Cause) : Type 0 where
    each : (slot : Slot) → fault_new t cause slot (x slot) ≡ true
    aligned : is_aligned op x ≡ true
    log : List Entry
    leads : Leading log (FailsWith cause)
    free : list_all (is_free_entry t) log ≡ true

  from_fault : (row : EntryRow) → HasItem rows row → (cause : Cause) → row.end ≡ Faults cause → FitsWay (way_to t pa leaf op kind question apart row (Faults cause)) x → IsFailing cause
  from_fault row i cause fails f =
      let h = and_parts (in_row op row x) _ f.holds in
      let in_it = and_parts (is_aligned op x) _ h.0 in
      let s = rows_are.sound row i (x slots.Ea) (x slots.FirstPte) (x slots.SecondPte) (small slots.Ea) in_it.1 in
      let w : Leading s.0 (FailsWith cause) = subst (λ (end : RowEnd). Leading s.0 (end_at end (x slots.Ea))) fails s.1 in
      record { each = f.each; aligned = in_it.0; log = s.0; leads = w; free = walk_free s.0 (ap (walk_keeps t pa) (sym (walk_is s.0 (FailsWith cause) w)) ∙ h.1) }

  to_fault : HasPage → (cause : Cause) → IsFailing cause → (way : Way) → way.outcome ≡ number_of cause → way.reaches ≡ false → Through way
  to_fault page cause r way ended quiet =
      let c = rows_are.complete (x slots.Ea) (x slots.FirstPte) (x slots.SecondPte) r.log (FailsWith cause) (small slots.Ea) page r.leads in
      let row : EntryRow = c.0 in
      let e = end_faults row.end (x slots.Ea) cause c.3 in
      let one : way_of t pa leaf op kind question apart row ≡ way_to t pa leaf op kind question apart row (Faults cause) = ap (way_to t pa leaf op kind question apart row) e in
      let fits : FitsWay (way_to t pa leaf op kind question apart row (Faults cause)) x = record {
        each = r.each;
        holds = and_from _ _ (and_from _ _ r.aligned c.2) (ap (walk_keeps t pa) (walk_is r.log (FailsWith cause) r.leads) ∙ keeps_walk r.log (FailsWith cause) r.leads r.free);
      } in
      record {
        other = way_of t pa leaf op kind question apart row;
        among = map_in (way_of t pa leaf op kind question apart) rows row c.1;
        fits = subst (λ (w : Way). FitsWay w x) (sym one) fits;
        outcome = ap (λ (w : Way). w.outcome) one ∙ sym ended;
        reaches = ap (λ (w : Way). w.reaches) one ∙ sym quiet;
      }

  fail_tests : (way : DataWay) (cause : Cause) → ((slot : Slot) → fault_new t cause slot (x slot) ≡ true) → (way_in way (x slots.Ea) && is_aligned_to op (x slots.Ea)) ≡ true → is_in way.first (x slots.FirstPte) ≡ true → is_in way.second (x slots.SecondPte) ≡ true
      → (slot : Slot) → (end_test t (Some cause) slot (x slot) && goal_test a op way (all_tests t leaf vars.Pa) Fails slot (x slot)) ≡ true
  fail_tests way cause each ea first second slots.Ea = and_from _ _ refl ea
  fail_tests way cause each ea first second slots.FirstPte = and_from _ _ refl first
  fail_tests way cause each ea first second slots.SecondPte = and_from _ _ refl second
  fail_tests way cause each ea first second slots.DataWord = and_from _ _ refl (each slots.DataWord)
  fail_tests way cause each ea first second slots.OldCsr = and_from _ _ (each slots.OldCsr) refl
  fail_tests way cause each ea first second slots.Vector = and_from _ _ (each slots.Vector) refl
  fail_tests way cause each ea first second _ = refl

  tests_fail : (way : DataWay) (cause : Cause) → ((slot : Slot) → (end_test t (Some cause) slot (x slot) && goal_test a op way (all_tests t leaf vars.Pa) Fails slot (x slot)) ≡ true) → (slot : Slot) → fault_new t cause slot (x slot) ≡ true
  tests_fail way cause each slots.DataWord = (and_parts true _ (each slots.DataWord)).1
  tests_fail way cause each slots.OldCsr = (and_parts _ _ (each slots.OldCsr)).0
  tests_fail way cause each slots.Vector = (and_parts _ _ (each slots.Vector)).0
  tests_fail way cause each _ = refl

  -- the way with its end told
  abbrev failing_way : DataWay → Cause → Way
  failing_way way cause = record { outcome = number_of cause; reaches = false; also = λ slot v. end_test t (Some cause) slot v && goal_test a op way (all_tests t leaf vars.Pa) Fails slot v; holds = Rattle.leaf_link.specs.Kinds.always }

  failing_is : (way : DataWay) (cause : Cause) → way.end ≡ ends.Fails cause → goal_way t a leaf op way Fails ≡ failing_way way cause
  failing_is way cause h = ap (λ (o : Option Cause). record { outcome = Rattle.data_goals.specs.Goals.outcome_of o; reaches = Rattle.data_goals.specs.Goals.retires o; also = λ slot v. end_test t o slot v && goal_test a op way (all_tests t leaf vars.Pa) Fails slot v; holds = Rattle.leaf_link.specs.Kinds.always }) (ap (λ (e : DataEnd). cause_of op e Fails) h)

  to_fails : HasPage → (cause : Cause) → IsFailing cause → HasGoal (number_of cause) false
  to_fails page cause r =
      let walks : Walks t (kind_of (access_of op)) (x slots.Ea) (x slots.FirstPte) (x slots.SecondPte) r.log (FailsWith cause) = subst (λ (k : Kind). Walks t k (x slots.Ea) (x slots.FirstPte) (x slots.SecondPte) r.log (FailsWith cause)) (sym kinds) r.leads in
      let c = ways_are.complete (x slots.Ea) (x slots.FirstPte) (x slots.SecondPte) r.log (FailsWith cause) (small slots.Ea) page walks (keep_fails t (is_load (row_of op)) r.log cause ∙ r.free) in
      let way : DataWay = c.0 in
      let e = way_faults way.end (x slots.Ea) cause c.6 in
      let same = failing_is way cause e in
      record {
        goal = goal_way t a leaf op way Fails;
        among = in_goals way Fails c.1 (subst (λ (end : DataEnd). HasItem (goals_by end) Fails) (sym e) (inl refl));
        fits = subst (λ (w : Way). FitsWay w x) (sym same) (record { each = fail_tests way cause r.each (and_from _ _ (and_from _ _ c.2 c.3) r.aligned) c.4 c.5; holds = refl });
        outcome_is = ap (λ (w : Way). w.outcome) same;
        reaches_is = ap (λ (w : Way). w.reaches) same;
      }

  from_fails : (way : DataWay) (cause : Cause) → HasItem (ways_for a op) way → way.end ≡ ends.Fails cause → FitsWay (goal_way t a leaf op way Fails) x → IsFailing cause
  from_fails way cause i e f0 =
      let f : FitsWay (failing_way way cause) x = subst (λ (w : Way). FitsWay w x) (failing_is way cause e) f0 in
      let each = λ (slot : Slot). (and_parts (end_test t (Some cause) slot (x slot)) _ (f.each slot)).1 in
      let own = and_parts (way_in way (x slots.Ea)) (is_aligned_to op (x slots.Ea)) (each slots.Ea) in
      let at = and_parts (counts way.apart (x slots.Ea)) (is_in way.ea (x slots.Ea)) own.0 in
      let s = ways_are.sound way i (x slots.Ea) (x slots.FirstPte) (x slots.SecondPte) (small slots.Ea) at.0 at.1 (each slots.FirstPte) (each slots.SecondPte) in
      let there : reached_by way.end (x slots.Ea) ≡ FailsWith cause = ap (λ (end : DataEnd). reached_by end (x slots.Ea)) e in
      record {
        each = tests_fail way cause f.each;
        aligned = own.1;
        log = s.0;
        leads = subst (λ (r : Reached). Leading s.0 r) there (subst (λ (z : Kind). Walks t z (x slots.Ea) (x slots.FirstPte) (x slots.SecondPte) s.0 (reached_by way.end (x slots.Ea))) kinds s.1);
        free = sym (keep_fails t (is_load (row_of op)) s.0 cause) ∙ ap (λ (r : Reached). keeps t (access_of op) s.0 r) (sym there) ∙ s.2;
      }

  -- A MISALIGNED ADDRESS
  abbrev missing : Way
  missing = traps_when t misaligned (λ x. not (is_aligned op x))

  abbrev AreAlone : Cause → Type 0
  AreAlone cause = (slot : Slot) → vector_alone t cause slot (x slot) ≡ true

  miss_tests : (cause : Cause) → AreAlone cause → not (is_aligned op x) ≡ true → (slot : Slot) → (end_test t (Some cause) slot (x slot) && goal_test a op misses (all_tests t leaf vars.Pa) Misaligned slot (x slot)) ≡ true
  miss_tests cause each at slots.Ea = and_from _ _ refl at
  miss_tests cause each at slots.FirstPte = and_from _ _ refl (each slots.FirstPte)
  miss_tests cause each at slots.SecondPte = and_from _ _ refl (each slots.SecondPte)
  miss_tests cause each at slots.DataWord = and_from _ _ refl (each slots.DataWord)
  miss_tests cause each at slots.OldCsr = and_from _ _ (each slots.OldCsr) refl
  miss_tests cause each at slots.Vector = and_from _ _ (each slots.Vector) refl
  miss_tests cause each at _ = refl

  tests_miss : (cause : Cause) → ((slot : Slot) → (end_test t (Some cause) slot (x slot) && goal_test a op misses (all_tests t leaf vars.Pa) Misaligned slot (x slot)) ≡ true) → AreAlone cause
  tests_miss cause each slots.FirstPte = (and_parts true _ (each slots.FirstPte)).1
  tests_miss cause each slots.SecondPte = (and_parts true _ (each slots.SecondPte)).1
  tests_miss cause each slots.DataWord = (and_parts true _ (each slots.DataWord)).1
  tests_miss cause each slots.OldCsr = (and_parts _ _ (each slots.OldCsr)).0
  tests_miss cause each slots.Vector = (and_parts _ _ (each slots.Vector)).0
  tests_miss cause each _ = refl

  abbrev own_cause : Cause
  own_cause = if is_load (row_of op) then Rattle.rv_csr.specs.declared.cause.Cause.TheVariants.LoadMisaligned else Rattle.rv_csr.specs.declared.cause.Cause.TheVariants.StoreMisaligned

  to_missing : FitsWay missing x → HasGoal (number_of misaligned) false
  to_missing f = record {
    goal = goal_way t a leaf op misses Misaligned;
    among = inl refl;
    fits = record { each = miss_tests own_cause (subst AreAlone (sym is.traps) f.each) f.holds; holds = refl };
    outcome_is = ap number_of is.traps;
    reaches_is = refl;
  }

  from_missing : FitsWay (goal_way t a leaf op misses Misaligned) x → FitsWay missing x
  from_missing f = record { each = subst AreAlone is.traps (tests_miss own_cause f.each); holds = (and_parts true _ (f.each slots.Ea)).1 }

  -- ONE WAY FOR ANOTHER
  abbrev ways : List Way
  ways = data_ways t pa leaf op kind misaligned question apart rows

  -- none of its ways is that of a refused instruction
  not_refused : (log : List Entry) (cause : Cause) → Leading log (FailsWith cause) → (number_of cause == 2) ≡ false
  not_refused log cause w = fails_so t.fixed.ram (data_view t.fixed) kind (x slots.Ea) (by_answers t.known (entry_answers (x slots.FirstPte) (x slots.SecondPte))) log cause w.plays

  module _ (outcome : ℕ) (reaches : Bool) (page : (outcome == 2) ≡ false → HasPage) where
    as_goal : {o : ℕ} {r : Bool} → o ≡ outcome → r ≡ reaches → HasGoal o r → HasWay op (goal_ways t a leaf op) x outcome reaches
    as_goal same also g = record { way = g.goal; is = g.among; fits = g.fits; outcome_is = g.outcome_is ∙ same; reaches_is = g.reaches_is ∙ also }

    way_is_goal : HasWay op ways x outcome reaches → HasWay op (goal_ways t a leaf op) x outcome reaches
    way_is_goal w = elim w.is [
      | inl e ↦ as_goal (ap (λ (z : Way). z.outcome) e ∙ w.outcome_is) (ap (λ (z : Way). z.reaches) e ∙ w.reaches_is) (to_missing (subst (λ (z : Way). FitsWay z x) (sym e) w.fits))
      | inr i ↦
          let m = in_map (way_of t pa leaf op kind question apart) rows w.way i in
          go m.0 m.1 m.0.end refl m.2
    ]
      where
        go : (row : EntryRow) → HasItem rows row → (end : RowEnd) → row.end ≡ end → way_of t pa leaf op kind question apart row ≡ w.way → HasWay op (goal_ways t a leaf op) x outcome reaches
        go row j (Leads to) same e =
            let one : way_to t pa leaf op kind question apart row (Leads to) ≡ w.way = ap (way_to t pa leaf op kind question apart row) (sym same) ∙ e in
            as_goal (ap (λ (z : Way). z.outcome) one ∙ w.outcome_is) (ap (λ (z : Way). z.reaches) one ∙ w.reaches_is) (to_goal (page (sym (ap (λ (n : ℕ). n == 2) (ap (λ (z : Way). z.outcome) one ∙ w.outcome_is)))) (to (x slots.Ea)) (from_row row j to same (subst (λ (z : Way). FitsWay z x) (sym one) w.fits)))
        go row j (Faults cause) same e =
            let one : way_to t pa leaf op kind question apart row (Faults cause) ≡ w.way = ap (way_to t pa leaf op kind question apart row) (sym same) ∙ e in
            let f = from_fault row j cause same (subst (λ (z : Way). FitsWay z x) (sym one) w.fits) in
            let there : HasPage = page (sym (ap (λ (n : ℕ). n == 2) (ap (λ (z : Way). z.outcome) one ∙ w.outcome_is)) ∙ not_refused f.log cause f.leads) in
            as_goal (ap (λ (z : Way). z.outcome) one ∙ w.outcome_is) (ap (λ (z : Way). z.reaches) one ∙ w.reaches_is) (to_fails there cause f)

    through_row : (w : HasWay op (goal_ways t a leaf op) x outcome reaches) → Through w.way → HasWay op ways x outcome reaches
    through_row w r = record { way = r.other; is = inr r.among; fits = r.fits; outcome_is = r.outcome ∙ w.outcome_is; reaches_is = r.reaches ∙ w.reaches_is }

    goal_is_way : HasWay op (goal_ways t a leaf op) x outcome reaches → HasWay op ways x outcome reaches
    goal_is_way w = elim w.is [
      | inl e ↦ record {
        way = missing;
        is = inl refl;
        fits = from_missing (subst (λ (z : Way). FitsWay z x) (sym e) w.fits);
        outcome_is = ap number_of (sym is.traps) ∙ ap (λ (z : Way). z.outcome) e ∙ w.outcome_is;
        reaches_is = ap (λ (z : Way). z.reaches) e ∙ w.reaches_is;
      }
      | inr i ↦
          let h = through_has t a leaf op (ways_for a op) w.way i in
          go h.0 h.1 h.2 h.0.end refl h.3 h.4
    ]
      where
        go : (way : DataWay) → HasItem (ways_for a op) way → (goal : Goal) → (end : DataEnd) → way.end ≡ end → HasItem (goals_by way.end) goal → goal_way t a leaf op way goal ≡ w.way → HasWay op ways x outcome reaches
        go way i goal (ends.At base mask) same j e = elim (subst (λ (z : DataEnd). HasItem (goals_by z) goal) same j) [
          | inl known ↦
              let one : goal_way t a leaf op way Known ≡ w.way = ap (goal_way t a leaf op way) known ∙ e in
              let r = from_known way i (subst (λ (z : Way). FitsWay z x) (sym one) w.fits) in
              through_row w (to_row (page (sym (ap (λ (n : ℕ). n == 2) (ap (λ (z : Way). z.outcome) one ∙ w.outcome_is)))) r.0 r.1 w.way (ap (λ (z : Way). z.outcome) (sym one)) (ap (λ (z : Way). z.reaches) (sym one)))
          | inr more ↦ elim more [
            | inl fresh ↦
                let one : goal_way t a leaf op way Fresh ≡ w.way = ap (goal_way t a leaf op way) fresh ∙ e in
                let r = from_fresh way i (subst (λ (z : Way). FitsWay z x) (sym one) w.fits) in
                through_row w (to_row (page (sym (ap (λ (n : ℕ). n == 2) (ap (λ (z : Way). z.outcome) one ∙ w.outcome_is)))) r.0 r.1 w.way (ap (λ (z : Way). z.outcome) (sym one)) (ap (λ (z : Way). z.reaches) (sym one)))
            | inr none ↦ absurd none
          ]
        ]
        go way i goal (ends.Fails cause) same j e = elim (subst (λ (z : DataEnd). HasItem (goals_by z) goal) same j) [
          | inl fails ↦
              let one : goal_way t a leaf op way Fails ≡ w.way = ap (goal_way t a leaf op way) fails ∙ e in
              let r = from_fails way cause i same (subst (λ (z : Way). FitsWay z x) (sym one) w.fits) in
              let told : w.way ≡ failing_way way cause = sym one ∙ failing_is way cause same in
              let there : HasPage = page (ap (λ (n : ℕ). n == 2) (sym w.outcome_is ∙ ap (λ (z : Way). z.outcome) told) ∙ not_refused r.log cause r.leads) in
              through_row w (to_fault there cause r w.way (ap (λ (z : Way). z.outcome) told) (ap (λ (z : Way). z.reaches) told))
          | inr none ↦ absurd none
        ]

    pub as_goals : HasWay op ways x outcome reaches ↔ HasWay op (goal_ways t a leaf op) x outcome reaches
    as_goals = (way_is_goal, goal_is_way)
