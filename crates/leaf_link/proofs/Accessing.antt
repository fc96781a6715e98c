-- The law of loads and stores, by the rows of their addresses.
use Rattle.std.proofs.Common.{◌≡◌, ℕ, if◌then◌else◌, ◌^◌, ◌<◌, ◌≤◌, ◌&&◌, ◌||◌, ◌==◌, not, Bool, true, false, eqb, ltb, List, [], ◌∷◌, ◌++◌, map, Option, Some, None, refl, sym, ap, ◌∙◌, subst, inl, inr, arith}
use Rattle.std.proofs.lemmas.Bool.{eq-eqb, eqb-true, cases_Bool, ne_eqb, and_parts, and_from}
use Rattle.rv_isa.specs.declared.instruction.Instr.{Instr}
use Rattle.rv_isa.specs.declared.operation.Op.{Op}
use Rattle.rv_isa.specs.Encoding.{word_of}
use Rattle.rv_isa.specs.Table.{row_of}
use Rattle.rv_csr.specs.declared.cause.Cause.{Cause}
use Rattle.rv_csr.specs.Causes.{number_of}
use Rattle.rv_script.specs.declared.access.Access.{Access}
use Rattle.rv_script.specs.declared.place.Place.{Place}
use Rattle.rv_script.specs.declared.place.Place.TheVariants.{Csr, Word}
use Rattle.rv_script.specs.Bytes.{word_address}
use Rattle.rv_script.specs.Lists.{HasItem}
use Rattle.rv_script.specs.Script.{Label, Label.FetchRoot, Label.FetchSecond, Label.Fetched, Label.FromRs1, Label.FromRs2, Label.FromCsr, Label.DataRoot, Label.DataSecond, Label.DataWord, Label.FromVector, Question, Question.OfRegister, Question.OfCsr, Question.OfMemory, Question.ToMemory, place_of, told as told_of, access_of, Script, Script.Done, Script.Ask, ◌>>=◌}
use Rattle.rv_script.specs.Folds.{on_note, Known, Teller, Answer, Answer.Does, prefixed, Entry}
use Rattle.foot_map.specs.Races.{breaks, Meet}
use Rattle.sv_walk.specs.declared.entry.Kind.{Kind}
use Rattle.sv_walk.specs.Translation.{Reached, At, Fails}
use Rattle.addr_rows.specs.Walks.{EntryRow, Faults, Leads, RowEnd, end_at, entry_answers}
use Rattle.rv_hart.specs.declared.record.Change.{Change}
use Rattle.rv_hart.specs.declared.record.Control.TheVariants.{Trap}
use Rattle.rv_hart.specs.Changes.{outcome_of}
use Rattle.rv_hart.specs.Machine.{arriving, data_view}
use Rattle.rv_hart.specs.Privileged.{trap, went}
use Rattle.tpl_ast.specs.declared.template.Atom.{Atom}
use Rattle.tpl_ast.specs.declared.template.Var.TheVariants as vars
use Rattle.tpl_admit.specs.Variables.{data_address, is_data, outcome_in}
use Rattle.fd_prob.specs.declared.slot.Slot.TheVariants as slots
use Rattle.rv_script.specs.Labels.{label_number, question_number, label_of}
use Rattle.rv_script.specs.Logs.{same_place, is_word, entry_place, entry_label, answer_told, log_of, labelled, value_or, by_answers, answer, new_value, if_new}
use Rattle.rv_mem.specs.Frames.{in_frames}
use Rattle.leaf_link.specs.Turns.{Turn, is_free_entry, may_start}
use Rattle.rv_isa.specs.Fields.{has_address}
use Rattle.leaf_link.specs.Values.{Values, instr_in, given_by, has_csr_operand, old_csr}
use Rattle.leaf_link.specs.Candidates.{accesses_in}
use Rattle.leaf_link.specs.Cases.{Way, all_tests, is_some_word}
use Rattle.leaf_link.specs.Ways.{AsksUsed, DoesRest, FitsWay, HasAddress, HasWay, IsAddressed, IsFetched, IsOf, IsReach, IsWays, shape_with, step_accesses}
use Rattle.leaf_link.specs.Kinds.{traps_when, vector_at}
use Rattle.leaf_link.specs.Reaching.{AreRows, HasPages, Walks, data_keeps, data_new, data_walk, data_ways, fault_new, in_row, is_aligned, is_data_word, not_code, not_walked, walk_keeps, way_of, way_to}
use Rattle.rv_script.proofs.Plays.{entry, asks, goes_on}
use Rattle.rv_script.proofs.Items.{has_either, has_first, has_second}
use Rattle.leaf_link.proofs.Front.{all_hold, hold_all, rest_of, same_done}
use Rattle.leaf_link.proofs.Law.{address_asks}
use Rattle.leaf_link.proofs.Both.{each_slot}
use Rattle.leaf_link.proofs.Resting.{AsksAll, Traps, asks_used, does_trap, in_one, is_write, no_csr, not_true, quiet_apart, trap_change, traps_does, vector_entry, vector_from, vector_to}
use Rattle.sv_walk.proofs.Plain.{plain_end, plain_words, translated_plain}
use Rattle.leaf_link.proofs.Reaching.{HasLabels, by_entries, by_values, coherent_behind, data_script, early_write, in_map, label_before, label_last, label_neither, label_none, map_in, not_same, same_not, then_done, walk_numbers}

-- WHAT IS OWED OF A LOAD OR STORE
pub record IsData (t : Turn) (walk : List Entry) (pa : ℕ) (op : Op) (kind : Kind) (misaligned : Cause) (question : Values → ℕ → Question) (apart : Values → ℕ → Bool) : Type 0 where
  pub labels : HasLabels kind
  pub change : Values → ℕ → ℕ → Change
  pub reached : (x : Values) → IsOf op x → HasAddress op x → is_aligned op x ≡ true
      → rest_of t op x (x slots.A) (x slots.B) ≡ (data_script t kind x >>= arriving t.fixed (word_of (instr_in x)) (x slots.Ea) (λ p. Ask (question x p) (λ v. Done (change x p v))))
  pub misses : (x : Values) → IsOf op x → HasAddress op x → is_aligned op x ≡ false → rest_of t op x (x slots.A) (x slots.B) ≡ trap t.fixed (word_of (instr_in x)) misaligned (x slots.Ea)
  pub small : (x : Values) → HasAddress op x → x slots.Ea < 2 ^ 32
  pub word : (x : Values) (p v : ℕ) → (change x p v).word ≡ word_of (instr_in x)
  pub outcome : (x : Values) (p v : ℕ) → outcome_in (outcome_of t.fixed (change x p v).control) ≡ 255
  pub label : (x : Values) (p : ℕ) → label_of (question x p) ≡ DataWord
  pub place : (x : Values) (p : ℕ) → place_of (question x p) ≡ Word (word_address p)
  pub free : (x : Values) (p v : ℕ) → is_free_entry t (entry (question x p) v) ≡ is_free_entry t (entry (question x p) 0)
  pub access : (x : Values) (p v : ℕ) → (y : Access) × (access_of (question x p) v ≡ Some y) × (is_data y.role ≡ true) × (y.addr ≡ p)
  pub addressed : has_address (row_of op) ≡ true
  pub no_operand : has_csr_operand (row_of op) ≡ false
  pub asks : AsksAll t op
  pub cause : (number_of misaligned == 2) ≡ false
  -- its test of races inside the step
  pub apart_does : (x : Values) (p v : ℕ) (log : List Entry) → is_aligned op x ≡ true → answer_told (by_answers t.known (given_by x)) (data_script t kind x) ≡ Does log (At p) → apart x p ≡ true
      → (y z : Access) → HasItem (step_accesses t walk pa (word_of (instr_in x)) (log ++ entry (question x p) v ∷ [])) y → HasItem (step_accesses t walk pa (word_of (instr_in x)) (log ++ entry (question x p) v ∷ [])) z → Meet y z → breaks true y.role z.role ≡ false
  pub apart_fits : (x : Values) (p v : ℕ) (log : List Entry) → is_aligned op x ≡ true → answer_told (by_answers t.known (given_by x)) (data_script t kind x) ≡ Does log (At p)
      → ((y z : Access) → HasItem (step_accesses t walk pa (word_of (instr_in x)) (log ++ entry (question x p) v ∷ [])) y → HasItem (step_accesses t walk pa (word_of (instr_in x)) (log ++ entry (question x p) v ∷ [])) z → Meet y z → breaks true y.role z.role ≡ false)
      → apart x p ≡ true

-- SMALL FACTS
walk_note : (q : Question) (v : ℕ) (ys : List Access) → 6 ≤ question_number q → question_number q < 8 → data_address (on_note (access_of q v) ys) ≡ data_address ys
walk_note (OfRegister label n) v ys h k = refl
walk_note (OfCsr label addr) v ys h k = refl
walk_note (OfMemory DataRoot addr size) v ys h k = refl
walk_note (OfMemory DataSecond addr size) v ys h k = refl
walk_note (OfMemory FetchRoot addr size) v ys h k = refl
walk_note (OfMemory FetchSecond addr size) v ys h k = refl
walk_note (OfMemory Fetched addr size) v ys h k = refl
walk_note (OfMemory FromRs1 addr size) v ys h k = absurd (omega (arith, h))
walk_note (OfMemory FromRs2 addr size) v ys h k = absurd (omega (arith, h))
walk_note (OfMemory FromCsr addr size) v ys h k = absurd (omega (arith, h))
walk_note (OfMemory DataWord addr size) v ys h k = absurd (omega (arith, k))
walk_note (OfMemory FromVector addr size) v ys h k = absurd (omega (arith, k))
walk_note (ToMemory addr size value) v ys h k = absurd (omega (arith, k))

walk_address : (xs ys : List Entry) → ((e : Entry) → HasItem xs e → (6 ≤ question_number e.question) × (question_number e.question < 8)) → data_address (accesses_in (xs ++ ys)) ≡ data_address (accesses_in ys)
walk_address [] ys h = refl
walk_address (e ∷ xs) ys h = let n = h e (inl refl) in walk_note e.question e.value (accesses_in (xs ++ ys)) n.0 n.1 ∙ walk_address xs ys (λ g i. h g (inr i))

one_address : (q : Question) (v : ℕ) (y : Access) → access_of q v ≡ Some y → is_data y.role ≡ true → data_address (accesses_in (entry q v ∷ [])) ≡ Some y.addr
one_address q v y h d = ap (λ (o : Option Access). data_address (on_note o [])) h ∙ ap (λ (b : Bool). if b then Some y.addr else None) d

may_any : (t : Turn) (i j : Instr) (l : Label) (place : Place) (v : ℕ) → 6 ≤ label_number l → label_number l < 8 → may_start t i l place v ≡ may_start t j l place v
may_any t i j DataRoot place v h k = refl
may_any t i j DataSecond place v h k = refl
may_any t i j FetchRoot place v h k = refl
may_any t i j FetchSecond place v h k = refl
may_any t i j Fetched place v h k = refl
may_any t i j FromRs1 place v h k = absurd (omega (arith, h))
may_any t i j FromRs2 place v h k = refl
may_any t i j FromCsr place v h k = refl
may_any t i j DataWord place v h k = refl
may_any t i j FromVector place v h k = refl

-- the data word is started as its domain says
word_to : (t : Turn) (p : ℕ) (o : Option ℕ) (v : ℕ) → (if is_some_word o then eqb v 0 else (ltb v (2 ^ 32) && in_frames t.pool (word_address p))) ≡ true
    → (o ≡ None → (ltb (value_or o v) (2 ^ 32) && in_frames t.pool (word_address p)) ≡ true) × (v ≡ if_new o (value_or o v))
word_to t p (Some w) v h = (λ n. absurd (cc), eqb-true _ _ h)
word_to t p None v h = (λ n. h, refl)

word_from : (t : Turn) (p : ℕ) (o : Option ℕ) (v : ℕ) → (o ≡ None → (ltb (value_or o v) (2 ^ 32) && in_frames t.pool (word_address p)) ≡ true) → v ≡ if_new o (value_or o v)
    → (if is_some_word o then eqb v 0 else (ltb v (2 ^ 32) && in_frames t.pool (word_address p))) ≡ true
word_from t p (Some w) v h e = eq-eqb _ _ e
word_from t p None v h e = h refl

reach_is : (wanted : ℕ → Bool) (r : Bool) (p : ℕ) → IsReach wanted r (Some p) → (r ≡ true) × (wanted p ≡ true)
reach_is wanted true p h = (refl, h)
reach_is wanted false p h = absurd h

reach_not : (wanted : ℕ → Bool) (r : Bool) → IsReach wanted r None → r ≡ false
reach_not wanted true h = absurd h
reach_not wanted false h = refl

-- THE ENTRY OF THE ACCESS
abbrev pub data_entry : Turn → (Values → ℕ → Question) → Values → ℕ → Entry
data_entry t question x p = answer t.known (given_by x) (question x p)

reach_plays : (t : Turn) (walk : List Entry) (pa : ℕ) (op : Op) (kind : Kind) (misaligned : Cause) (question : Values → ℕ → Question) (apart : Values → ℕ → Bool) (d : IsData t walk pa op kind misaligned question apart)
    (x : Values) → IsOf op x → HasAddress op x → is_aligned op x ≡ true → (log : List Entry) (p : ℕ) → answer_told (by_answers t.known (given_by x)) (data_script t kind x) ≡ Does log (At p)
    → answer_told (by_answers t.known (given_by x)) (rest_of t op x (x slots.A) (x slots.B)) ≡ Does (log ++ data_entry t question x p ∷ []) (d.change x p (told_of (question x p) (data_entry t question x p).value))
reach_plays t walk pa op kind misaligned question apart d x is ea al log p h =
    let tell : Teller = by_answers t.known (given_by x) in
    let next : ℕ → Script Change = λ p. Ask (question x p) (λ v. Done (d.change x p v)) in
    ap (λ (s : Script Change). answer_told tell s) (d.reached x is ea al)
    ∙ goes_on (data_script t kind x) (arriving t.fixed (word_of (instr_in x)) (x slots.Ea) next) tell log (At p) h
    ∙ ap (λ (r : Answer Entry Change). prefixed log r) (asks t.known (given_by x) (question x p) (λ v. Done (d.change x p v)))

fault_plays : (t : Turn) (walk : List Entry) (pa : ℕ) (op : Op) (kind : Kind) (misaligned : Cause) (question : Values → ℕ → Question) (apart : Values → ℕ → Bool) (d : IsData t walk pa op kind misaligned question apart)
    (x : Values) → IsOf op x → HasAddress op x → is_aligned op x ≡ true → (log : List Entry) (cause : Cause) → answer_told (by_answers t.known (given_by x)) (data_script t kind x) ≡ Does log (Fails cause)
    → answer_told (by_answers t.known (given_by x)) (rest_of t op x (x slots.A) (x slots.B)) ≡ Does (log ++ vector_entry t x cause ∷ []) (trap_change t x cause (x slots.Ea))
unfolding trap
fault_plays t walk pa op kind misaligned question apart d x is ea al log cause h =
    let tell : Teller = by_answers t.known (given_by x) in
    let next : ℕ → Script Change = λ p. Ask (question x p) (λ v. Done (d.change x p v)) in
    ap (λ (s : Script Change). answer_told tell s) (d.reached x is ea al)
    ∙ goes_on (data_script t kind x) (arriving t.fixed (word_of (instr_in x)) (x slots.Ea) next) tell log (Fails cause) h
    ∙ ap (λ (r : Answer Entry Change). prefixed log r) (asks t.known (given_by x) (OfCsr FromVector (vector_at t.fixed cause)) (λ v. Done (went (word_of (instr_in x)) None (Trap (number_of cause) (x slots.Ea)) v)))

-- FROM A ROW TO WHAT IS DONE
row_does : (t : Turn) (walk : List Entry) (pa : ℕ) (leaf : List Atom) (op : Op) (kind : Kind) (misaligned : Cause) (question : Values → ℕ → Question) (apart : Values → ℕ → Bool) (d : IsData t walk pa op kind misaligned question apart)
    → IsFetched t walk pa → (x : Values) → IsOf op x → HasAddress op x → (row : EntryRow) (end : RowEnd) → ((h : row.holds (x slots.Ea) (x slots.FirstPte) (x slots.SecondPte) ≡ true) → (log : List Entry) × Walks t kind (x slots.Ea) (x slots.FirstPte) (x slots.SecondPte) log (end_at end (x slots.Ea)))
    → FitsWay (way_to t pa leaf op kind question apart row end) x → DoesRest t walk pa leaf (shape_with op (way_to t pa leaf op kind question apart row end).outcome (way_to t pa leaf op kind question apart row end).reaches) x
row_does t walk pa leaf op kind misaligned question apart d f x is ea row (Leads to) sound w =
    let p : ℕ = to (x slots.Ea) in
    let k : Known = t.known in
    let h = and_parts (in_row op row x) _ w.holds in
    let r = and_parts (is_aligned op x) (row.holds (x slots.Ea) (x slots.FirstPte) (x slots.SecondPte)) h.0 in
    let h1 = and_parts (walk_keeps t pa (data_walk t kind x)) _ h.1 in
    let h2 = and_parts (data_keeps t pa leaf question (data_walk t kind x) x p) (apart x p) h1.1 in
    let s = sound r.1 in
    let log : List Entry = s.0 in
    let plays : answer_told (by_answers k (given_by x)) (data_script t kind x) ≡ Does log (At p) = by_values t kind x log (At p) d.labels s.1.plays in
    let is_walk : data_walk t kind x ≡ log = ap (λ (a : Answer Entry Reached). log_of a) plays in
    let numbers = walk_numbers t kind x (by_answers k (given_by x)) log (At p) d.labels plays in
    let keeps : (e : Entry) → HasItem log e → (is_free_entry t e && not_code t pa (entry_place e)) ≡ true = all_hold (λ e. is_free_entry t e && not_code t pa (entry_place e)) log (subst (λ (l : List Entry). walk_keeps t pa l ≡ true) is_walk h1.0) in
    let c0 = and_parts _ _ h2.0 in
    let c1 = and_parts _ _ c0.1 in
    let c2 = and_parts _ _ c1.1 in
    let c3 = and_parts _ _ c2.1 in
    let e : Entry = data_entry t question x p in
    let number : question_number e.question ≡ 8 = ap label_number (d.label x p) in
    let value : e.value ≡ value_or (k (Word (word_address p))) (x slots.DataWord) =
    ap (λ (q : Place). value_or (k q) (given_by x (label_of (question x p)))) (d.place x p) ∙ ap (λ (l : Label). value_or (k (Word (word_address p))) (given_by x l)) (d.label x p) in
    let word = word_to t p (k (Word (word_address p))) (x slots.DataWord) c1.0 in
    let walked : (g : Entry) → HasItem log g → k (entry_place g) ≡ None → entry_place g ≡ Word (word_address p) → ⊥ =
    λ g i none q. not_same (k (entry_place g)) (entry_place g) (Word (word_address p)) (all_hold (λ e. is_some_word (k (entry_place e)) || not (same_place (entry_place e) (Word (word_address p)))) log (subst (λ (l : List Entry). not_walked t (Word (word_address p)) l ≡ true) is_walk c3.0) g i) none q in
    let differs : (l : Label) → label_number l < 8 → eqb (question_number e.question) (label_number l) ≡ false = λ l less. ne_eqb _ _ (λ same. omega (arith, number, less, same)) in
    let acc = d.access x p e.value in
    record {
      log = log ++ e ∷ [];
      change = d.change x p (told_of (question x p) e.value);
      plays = reach_plays t walk pa op kind misaligned question apart d x is ea r.0 log p plays;
      word = d.word x p (told_of (question x p) e.value);
      outcome = d.outcome x p (told_of (question x p) e.value);
      reach = subst (λ (o : Option ℕ). IsReach (all_tests t leaf vars.Pa) true o) (sym (walk_address log (e ∷ []) numbers ∙ one_address (question x p) e.value acc.0 acc.1 acc.2 ∙ ap (λ (n : ℕ). Some n) acc.3)) c3.1;
      may = λ g i none. elim (has_either log (e ∷ []) g i) [
        | inl j ↦ s.1.may (instr_in x) g j none
        | inr j ↦
            let same : e ≡ g = in_one e g j in
            let n : k (Word (word_address p)) ≡ None = ap k (sym (d.place x p)) ∙ ap (λ (z : Entry). k (entry_place z)) same ∙ none in
            subst (λ (z : Entry). may_start t (instr_in x) (entry_label z) (entry_place z) z.value ≡ true) same
            (ap (λ (l : Label). may_start t (instr_in x) l (entry_place e) e.value) (d.label x p) ∙ ap (λ (q : Place). may_start t (instr_in x) DataWord q e.value) (d.place x p)
            ∙ ap (λ (v : ℕ). may_start t (instr_in x) DataWord (Word (word_address p)) v) value ∙ word.0 n)
      ];
      free = λ g i. elim (has_either log (e ∷ []) g i) [
        | inl j ↦ (and_parts _ _ (keeps g j)).0
        | inr j ↦ subst (λ (z : Entry). is_free_entry t z ≡ true) (in_one e g j) (d.free x p e.value ∙ c0.0)
      ];
      coherent = coherent_behind k log e s.1.coherent (λ g i none q. walked g i none (q ∙ d.place x p));
      one_role = λ g i none q. elim (has_either log (e ∷ []) g i) [
        | inl j ↦ not_same (k (Word pa)) (Word pa) (entry_place g) (and_parts _ _ (keeps g j)).1 none q
        | inr j ↦ not_same (k (Word pa)) (Word pa) (Word (word_address p)) c2.0 none (q ∙ sym (ap (λ (z : Entry). entry_place z) (in_one e g j)) ∙ d.place x p)
      ];
      apart = d.apart_does x p e.value log r.0 plays h2.1;
      first = s.1.first_is ∙ ap (λ (o : Option Entry). new_value k o) (sym (label_before log e DataRoot (differs DataRoot (omega arith))));
      second = s.1.second_is ∙ ap (λ (o : Option Entry). new_value k o) (sym (label_before log e DataSecond (differs DataSecond (omega arith))));
      data_word = word.1 ∙ ap (λ (v : ℕ). if_new (k (Word (word_address p))) v) (sym value) ∙ ap (λ (q : Place). if_new (k q) e.value) (sym (d.place x p))
          ∙ ap (λ (o : Option Entry). new_value k o) (sym (label_last log e DataWord (λ g i. (numbers g i).1) (omega arith) (eq-eqb _ _ number)));
      old = eqb-true _ _ (w.each slots.OldCsr) ∙ sym (no_csr t op x is d.no_operand) ∙ ap (λ (o : Option Entry). old_csr t.fixed (instr_in x) o) (sym (label_none log e FromCsr (λ g i. (numbers g i).0) (omega (arith, number)) (omega arith)));
      vector = eqb-true _ _ (w.each slots.Vector) ∙ ap (λ (o : Option Entry). new_value k o) (sym (label_neither log e FromVector (λ g i. (numbers g i).1) (omega arith) (ne_eqb _ _ (λ same. omega (arith, number, same)))));
    }
row_does t walk pa leaf op kind misaligned question apart d f x is ea row (Faults cause) sound w =
    let k : Known = t.known in
    let h = and_parts (in_row op row x) _ w.holds in
    let r = and_parts (is_aligned op x) (row.holds (x slots.Ea) (x slots.FirstPte) (x slots.SecondPte)) h.0 in
    let s = sound r.1 in
    let log : List Entry = s.0 in
    let plays : answer_told (by_answers k (given_by x)) (data_script t kind x) ≡ Does log (Fails cause) = by_values t kind x log (Fails cause) d.labels s.1.plays in
    let is_walk : data_walk t kind x ≡ log = ap (λ (a : Answer Entry Reached). log_of a) plays in
    let numbers = walk_numbers t kind x (by_answers k (given_by x)) log (Fails cause) d.labels plays in
    let keeps : (e : Entry) → HasItem log e → (is_free_entry t e && not_code t pa (entry_place e)) ≡ true = all_hold (λ e. is_free_entry t e && not_code t pa (entry_place e)) log (subst (λ (l : List Entry). walk_keeps t pa l ≡ true) is_walk h.1) in
    let e : Entry = vector_entry t x cause in
    let v = vector_to t (k (Csr (vector_at t.fixed cause))) (x slots.Vector) (w.each slots.Vector) in
    record {
      log = log ++ e ∷ [];
      change = trap_change t x cause (x slots.Ea);
      plays = fault_plays t walk pa op kind misaligned question apart d x is ea r.0 log cause plays;
      word = refl;
      outcome = refl;
      reach = subst (λ (o : Option ℕ). IsReach (all_tests t leaf vars.Pa) false o) (sym (walk_address log (e ∷ []) numbers)) tt;
      may = λ g i none. elim (has_either log (e ∷ []) g i) [
        | inl j ↦ s.1.may (instr_in x) g j none
        | inr j ↦ let same : e ≡ g = in_one e g j in
            subst (λ (z : Entry). may_start t (instr_in x) (entry_label z) (entry_place z) z.value ≡ true) same (v.0 (ap (λ (z : Entry). k (entry_place z)) same ∙ none))
      ];
      free = λ g i. elim (has_either log (e ∷ []) g i) [
        | inl j ↦ (and_parts _ _ (keeps g j)).0
        | inr j ↦ subst (λ (z : Entry). is_free_entry t z ≡ true) (in_one e g j) refl
      ];
      coherent = coherent_behind k log e s.1.coherent (λ g i none q. let z : is_word (entry_place g) ≡ false = ap is_word q in let y = plain_words (data_script t kind x) (by_answers k (given_by x)) log (Fails cause) (translated_plain t.fixed.ram (data_view t.fixed) kind (x slots.Ea)) plays g i in cc);
      one_role = λ g i none q. elim (has_either log (e ∷ []) g i) [
        | inl j ↦ not_same (k (Word pa)) (Word pa) (entry_place g) (and_parts _ _ (keeps g j)).1 none q
        | inr j ↦ let z : Csr (vector_at t.fixed cause) ≡ entry_place g = ap (λ (y : Entry). entry_place y) (in_one e g j) in absurd (cc)
      ];
      apart = quiet_apart t walk pa (word_of (instr_in x)) (log ++ e ∷ []) f (λ g i. elim (has_either log (e ∷ []) g i) [
        | inl j ↦ early_write g.question (numbers g j).1
        | inr j ↦ subst (λ (z : Entry). is_write z.question ≡ false) (in_one e g j) refl
      ]);
      first = s.1.first_is ∙ ap (λ (o : Option Entry). new_value k o) (sym (label_before log e DataRoot refl));
      second = s.1.second_is ∙ ap (λ (o : Option Entry). new_value k o) (sym (label_before log e DataSecond refl));
      data_word = eqb-true _ _ (w.each slots.DataWord) ∙ ap (λ (o : Option Entry). new_value k o) (sym (label_neither log e DataWord (λ g i. (numbers g i).1) (omega arith) refl));
      old = eqb-true _ _ (w.each slots.OldCsr) ∙ sym (no_csr t op x is d.no_operand) ∙ ap (λ (o : Option Entry). old_csr t.fixed (instr_in x) o) (sym (label_none log e FromCsr (λ g i. (numbers g i).0) (omega arith) (omega arith)));
      vector = v.1 ∙ ap (λ (o : Option Entry). new_value k o) (sym (label_last log e FromVector (λ g i. (numbers g i).1) (omega arith) refl));
    }

-- FROM WHAT IS DONE TO A ROW
-- a row with its end, for the way that it is
way_end : (t : Turn) (pa : ℕ) (leaf : List Atom) (op : Op) (kind : Kind) (question : Values → ℕ → Question) (apart : Values → ℕ → Bool) (row : EntryRow) (end : RowEnd) → row.end ≡ end → way_of t pa leaf op kind question apart row ≡ way_to t pa leaf op kind question apart row end
way_end t pa leaf op kind question apart row end h = ap (λ (z : RowEnd). way_to t pa leaf op kind question apart row z) h

leads_to : (end : RowEnd) (ea p : ℕ) → end_at end ea ≡ At p → (to : ℕ → ℕ) × (end ≡ Leads to) × (to ea ≡ p)
leads_to (Leads to) ea p h = (to, refl, cc)
leads_to (Faults cause) ea p h = absurd (cc)

faults_by : (end : RowEnd) (ea : ℕ) (cause : Cause) → end_at end ea ≡ Fails cause → end ≡ Faults cause
faults_by (Leads to) ea cause h = absurd (cc)
faults_by (Faults c) ea cause h = ap (λ (z : Cause). Faults z) (let y : c ≡ cause = cc in y)

-- what was walked, and what was done behind it
pub record Walked (t : Turn) (pa : ℕ) (kind : Kind) (x : Values) (whole log second : List Entry) (end : Reached) : Type 0 where
  pub plays : answer_told (by_answers t.known (given_by x)) (data_script t kind x) ≡ Does log end
  pub split : whole ≡ log ++ second
  pub numbers : (e : Entry) → HasItem log e → (6 ≤ question_number e.question) × (question_number e.question < 8)
  pub keeps : walk_keeps t pa (data_walk t kind x) ≡ true
  pub is_walk : data_walk t kind x ≡ log

-- the walk is one of the rows
walks_of : (t : Turn) (walk : List Entry) (pa : ℕ) (leaf : List Atom) (op : Op) (kind : Kind) (x : Values) (outcome : ℕ) (reaches : Bool) (r : DoesRest t walk pa leaf (shape_with op outcome reaches) x) (log : List Entry) (e : Entry) (end : Reached)
    → HasLabels kind → Walked t pa kind x r.log log (e ∷ []) end → 8 ≤ question_number e.question → Walks t kind (x slots.Ea) (x slots.FirstPte) (x slots.SecondPte) log end
walks_of t walk pa leaf op kind x outcome reaches r log e end labels w late =
    let in_log : (g : Entry) → HasItem log g → HasItem r.log g = λ g j. subst (λ (z : List Entry). HasItem z g) (sym w.split) (has_first log (e ∷ []) g j) in
    let differs : (l : Label) → label_number l < 8 → eqb (question_number e.question) (label_number l) ≡ false = λ l less. ne_eqb _ _ (λ same. omega (arith, late, less, same)) in
    record {
      plays = by_entries t kind x log end labels w.plays;
      may = λ i g j none. let n = w.numbers g j in may_any t i (instr_in x) (entry_label g) (entry_place g) g.value n.0 n.1 ∙ r.may g (in_log g j) none;
      coherent = λ c g m n none q. r.coherent c g (in_log c m) (in_log g n) none q;
      first_is = r.first ∙ ap (λ (z : List Entry). new_value t.known (labelled z DataRoot)) w.split ∙ ap (λ (o : Option Entry). new_value t.known o) (label_before log e DataRoot (differs DataRoot (omega arith)));
      second_is = r.second ∙ ap (λ (z : List Entry). new_value t.known (labelled z DataSecond)) w.split ∙ ap (λ (o : Option Entry). new_value t.known o) (label_before log e DataSecond (differs DataSecond (omega arith)));
    }

-- the address is in the pages
in_pages : (t : Turn) (walk : List Entry) (pa : ℕ) (leaf : List Atom) (op : Op) (kind : Kind) (misaligned : Cause) (question : Values → ℕ → Question) (apart : Values → ℕ → Bool) → IsData t walk pa op kind misaligned question apart
    → (x : Values) → IsOf op x → HasAddress op x → (outcome : ℕ) (reaches : Bool) (pages : ℕ → Bool) → HasPages t leaf pages → (outcome == 2) ≡ false → IsAddressed t leaf (shape_with op outcome reaches) x → pages (x slots.Ea) ≡ true
in_pages t walk pa leaf op kind misaligned question apart d x is ea outcome reaches pages has_pages kept inside =
    has_pages (x slots.Ea) (d.small x ea) (inside (and_from _ _ d.addressed (and_from _ _ (sym (d.asks x is) ∙ address_asks (row_of op) t.fixed (instr_in x) d.addressed) (ap not kept))))

does_reach : (t : Turn) (walk : List Entry) (pa : ℕ) (leaf : List Atom) (op : Op) (kind : Kind) (misaligned : Cause) (question : Values → ℕ → Question) (apart : Values → ℕ → Bool) (d : IsData t walk pa op kind misaligned question apart)
    (pages : ℕ → Bool) (rows : List EntryRow) → HasPages t leaf pages → AreRows t pages kind rows → (x : Values) → IsOf op x → HasAddress op x → is_aligned op x ≡ true → (outcome : ℕ) (reaches : Bool) (r : DoesRest t walk pa leaf (shape_with op outcome reaches) x)
    → IsAddressed t leaf (shape_with op outcome reaches) x → (log : List Entry) (p : ℕ) → Walked t pa kind x r.log log (data_entry t question x p ∷ []) (At p) → HasWay op (data_ways t pa leaf op kind misaligned question apart rows) x outcome reaches
does_reach t walk pa leaf op kind misaligned question apart d pages rows has_pages are x is ea al outcome reaches r inside log p w =
    let k : Known = t.known in
    let e : Entry = data_entry t question x p in
    let number : question_number e.question ≡ 8 = ap label_number (d.label x p) in
    let same = same_done r.log (log ++ e ∷ []) r.change (d.change x p (told_of (question x p) e.value)) (sym r.plays ∙ reach_plays t walk pa op kind misaligned question apart d x is ea al log p w.plays) in
    let walks = walks_of t walk pa leaf op kind x outcome reaches r log e (At p) d.labels w (omega (arith, number)) in
    let ends : 255 ≡ outcome = sym (d.outcome x p (told_of (question x p) e.value)) ∙ ap (λ (c : Change). outcome_in (outcome_of t.fixed c.control)) (sym same.1) ∙ r.outcome in
    let page = in_pages t walk pa leaf op kind misaligned question apart d x is ea outcome reaches pages has_pages (ap (λ (n : ℕ). n == 2) (sym ends)) inside in
    let has = are.complete (x slots.Ea) (x slots.FirstPte) (x slots.SecondPte) log (At p) (d.small x ea) page walks in
    let row : EntryRow = has.0 in
    let leads = leads_to row.end (x slots.Ea) p has.3 in
    let to : ℕ → ℕ = leads.0 in
    let p_is : to (x slots.Ea) ≡ p = leads.2 in
    let way : Way = way_to t pa leaf op kind question apart row (Leads to) in
    let way_is : way_of t pa leaf op kind question apart row ≡ way = way_end t pa leaf op kind question apart row (Leads to) leads.1 in
    let own : HasItem r.log e = subst (λ (z : List Entry). HasItem z e) (sym w.split) (has_second log (e ∷ []) e (inl refl)) in
    let acc = d.access x p e.value in
    let address : data_address (accesses_in r.log) ≡ Some p = ap (λ (z : List Entry). data_address (accesses_in z)) w.split ∙ walk_address log (e ∷ []) w.numbers ∙ one_address (question x p) e.value acc.0 acc.1 acc.2 ∙ ap (λ (n : ℕ). Some n) acc.3 in
    let reach = reach_is (all_tests t leaf vars.Pa) reaches p (subst (λ (o : Option ℕ). IsReach (all_tests t leaf vars.Pa) reaches o) address r.reach) in
    let value : e.value ≡ value_or (k (Word (word_address p))) (x slots.DataWord) =
    ap (λ (q : Place). value_or (k q) (given_by x (label_of (question x p)))) (d.place x p) ∙ ap (λ (l : Label). value_or (k (Word (word_address p))) (given_by x l)) (d.label x p) in
    let word : is_data_word t p (x slots.DataWord) ≡ true = word_from t p (k (Word (word_address p))) (x slots.DataWord)
    (λ none. ap (λ (v : ℕ). may_start t (instr_in x) DataWord (Word (word_address p)) v) (sym value) ∙ ap (λ (q : Place). may_start t (instr_in x) DataWord q e.value) (sym (d.place x p))
    ∙ ap (λ (l : Label). may_start t (instr_in x) l (entry_place e) e.value) (sym (d.label x p)) ∙ r.may e own (ap k (d.place x p) ∙ none))
    (r.data_word ∙ ap (λ (z : List Entry). new_value k (labelled z DataWord)) w.split ∙ ap (λ (o : Option Entry). new_value k o) (label_last log e DataWord (λ g i. (w.numbers g i).1) (omega arith) (eq-eqb _ _ number))
    ∙ ap (λ (q : Place). if_new (k q) e.value) (d.place x p) ∙ ap (λ (v : ℕ). if_new (k (Word (word_address p))) v) value) in
    let code : not_code t pa (Word (word_address p)) ≡ true = same_not (k (Word pa)) (Word pa) (Word (word_address p)) (λ none q. r.one_role e own none (q ∙ sym (d.place x p))) in
    let walked : not_walked t (Word (word_address p)) (data_walk t kind x) ≡ true = subst (λ (z : List Entry). not_walked t (Word (word_address p)) z ≡ true) (sym w.is_walk)
    (hold_all (λ g. is_some_word (k (entry_place g)) || not (same_place (entry_place g) (Word (word_address p)))) log (λ g j. same_not (k (entry_place g)) (entry_place g) (Word (word_address p)) (λ none q.
    let in_log : HasItem r.log g = subst (λ (z : List Entry). HasItem z g) (sym w.split) (has_first log (e ∷ []) g j) in
    let c = r.coherent g e in_log own none (q ∙ sym (d.place x p)) in
    let label : entry_label g ≡ entry_label e = c.0 (ap is_word q) in
    let n : question_number g.question ≡ question_number e.question = ap label_number label in
    let less = (w.numbers g j).1 in absurd (omega (arith, n, number, less))))) in
    let keeps : data_keeps t pa leaf question (data_walk t kind x) x p ≡ true =
    and_from _ _ (sym (d.free x p e.value) ∙ r.free e own) (and_from _ _ word (and_from _ _ code (and_from _ _ walked reach.1))) in
    let free_apart : apart x p ≡ true = d.apart_fits x p e.value log al w.plays
    (subst (λ (z : List Entry). (y a : Access) → HasItem (step_accesses t walk pa (word_of (instr_in x)) z) y → HasItem (step_accesses t walk pa (word_of (instr_in x)) z) a → Meet y a → breaks true y.role a.role ≡ false) w.split r.apart) in
    record {
      way = way;
      is = inr (subst (λ (z : Way). HasItem (map (way_of t pa leaf op kind question apart) rows) z) way_is (map_in (way_of t pa leaf op kind question apart) rows row has.1));
      fits = record {
        each = each_slot (λ s. data_new s (x s) ≡ true) (record {
          op_slot = refl;
          rs1_slot = refl;
          rs2_slot = refl;
          imm_slot = refl;
          rd_slot = refl;
          csr_slot = refl;
          ea_slot = refl;
          a_slot = refl;
          b_slot = refl;
          first_slot = refl;
          second_slot = refl;
          data_slot = refl;
          old_slot = eq-eqb _ _ (r.old ∙ ap (λ (z : List Entry). old_csr t.fixed (instr_in x) (labelled z FromCsr)) w.split ∙ ap (λ (o : Option Entry). old_csr t.fixed (instr_in x) o) (label_none log e FromCsr (λ g i. (w.numbers g i).0) (omega (arith, number)) (omega arith)) ∙ no_csr t op x is d.no_operand);
          vector_slot = eq-eqb _ _ (r.vector ∙ ap (λ (z : List Entry). new_value k (labelled z FromVector)) w.split ∙ ap (λ (o : Option Entry). new_value k o) (label_neither log e FromVector (λ g i. (w.numbers g i).1) (omega arith) (ne_eqb _ _ (λ same. omega (arith, number, same)))));
        });
        holds = and_from _ _ (and_from _ _ al has.2) (and_from _ _ w.keeps
            (subst (λ (n : ℕ). (data_keeps t pa leaf question (data_walk t kind x) x n && apart x n) ≡ true) (sym p_is) (and_from _ _ keeps free_apart)));
      };
      outcome_is = ends;
      reaches_is = sym reach.0;
    }

does_fault : (t : Turn) (walk : List Entry) (pa : ℕ) (leaf : List Atom) (op : Op) (kind : Kind) (misaligned : Cause) (question : Values → ℕ → Question) (apart : Values → ℕ → Bool) (d : IsData t walk pa op kind misaligned question apart)
    (pages : ℕ → Bool) (rows : List EntryRow) → HasPages t leaf pages → AreRows t pages kind rows → (x : Values) → IsOf op x → HasAddress op x → is_aligned op x ≡ true → (outcome : ℕ) (reaches : Bool) (r : DoesRest t walk pa leaf (shape_with op outcome reaches) x)
    → IsAddressed t leaf (shape_with op outcome reaches) x → (log : List Entry) (cause : Cause) → Walked t pa kind x r.log log (vector_entry t x cause ∷ []) (Fails cause) → HasWay op (data_ways t pa leaf op kind misaligned question apart rows) x outcome reaches
does_fault t walk pa leaf op kind misaligned question apart d pages rows has_pages are x is ea al outcome reaches r inside log cause w =
    let k : Known = t.known in
    let e : Entry = vector_entry t x cause in
    let same = same_done r.log (log ++ e ∷ []) r.change (trap_change t x cause (x slots.Ea)) (sym r.plays ∙ fault_plays t walk pa op kind misaligned question apart d x is ea al log cause w.plays) in
    let walks = walks_of t walk pa leaf op kind x outcome reaches r log e (Fails cause) d.labels w (omega arith) in
    let ends : number_of cause ≡ outcome = ap (λ (c : Change). outcome_in (outcome_of t.fixed c.control)) (sym same.1) ∙ r.outcome in
    let plain : (number_of cause == 2) ≡ false = plain_end (data_script t kind x) (by_answers k (given_by x)) log (Fails cause) (translated_plain t.fixed.ram (data_view t.fixed) kind (x slots.Ea)) w.plays in
    let page = in_pages t walk pa leaf op kind misaligned question apart d x is ea outcome reaches pages has_pages (ap (λ (n : ℕ). n == 2) (sym ends) ∙ plain) inside in
    let has = are.complete (x slots.Ea) (x slots.FirstPte) (x slots.SecondPte) log (Fails cause) (d.small x ea) page walks in
    let row : EntryRow = has.0 in
    let end_is : row.end ≡ Faults cause = faults_by row.end (x slots.Ea) cause has.3 in
    let way : Way = way_to t pa leaf op kind question apart row (Faults cause) in
    let way_is : way_of t pa leaf op kind question apart row ≡ way = way_end t pa leaf op kind question apart row (Faults cause) end_is in
    let own : HasItem r.log e = subst (λ (z : List Entry). HasItem z e) (sym w.split) (has_second log (e ∷ []) e (inl refl)) in
    let address : data_address (accesses_in r.log) ≡ None = ap (λ (z : List Entry). data_address (accesses_in z)) w.split ∙ walk_address log (e ∷ []) w.numbers in
    record {
      way = way;
      is = inr (subst (λ (z : Way). HasItem (map (way_of t pa leaf op kind question apart) rows) z) way_is (map_in (way_of t pa leaf op kind question apart) rows row has.1));
      fits = record {
        each = each_slot (λ s. fault_new t cause s (x s) ≡ true) (record {
          op_slot = refl;
          rs1_slot = refl;
          rs2_slot = refl;
          imm_slot = refl;
          rd_slot = refl;
          csr_slot = refl;
          ea_slot = refl;
          a_slot = refl;
          b_slot = refl;
          first_slot = refl;
          second_slot = refl;
          data_slot = eq-eqb _ _ (r.data_word ∙ ap (λ (z : List Entry). new_value k (labelled z DataWord)) w.split ∙ ap (λ (o : Option Entry). new_value k o) (label_neither log e DataWord (λ g i. (w.numbers g i).1) (omega arith) refl));
          old_slot = eq-eqb _ _ (r.old ∙ ap (λ (z : List Entry). old_csr t.fixed (instr_in x) (labelled z FromCsr)) w.split ∙ ap (λ (o : Option Entry). old_csr t.fixed (instr_in x) o) (label_none log e FromCsr (λ g i. (w.numbers g i).0) (omega arith) (omega arith)) ∙ no_csr t op x is d.no_operand);
          vector_slot = vector_from t (k (Csr (vector_at t.fixed cause))) (x slots.Vector) (λ none. r.may e own none)
              (r.vector ∙ ap (λ (z : List Entry). new_value k (labelled z FromVector)) w.split ∙ ap (λ (o : Option Entry). new_value k o) (label_last log e FromVector (λ g i. (w.numbers g i).1) (omega arith) refl));
        });
        holds = and_from _ _ (and_from _ _ al has.2) w.keeps;
      };
      outcome_is = ends;
      reaches_is = sym (reach_not (all_tests t leaf vars.Pa) reaches (subst (λ (o : Option ℕ). IsReach (all_tests t leaf vars.Pa) reaches o) address r.reach));
    }

does_row : (t : Turn) (walk : List Entry) (pa : ℕ) (leaf : List Atom) (op : Op) (kind : Kind) (misaligned : Cause) (question : Values → ℕ → Question) (apart : Values → ℕ → Bool) (d : IsData t walk pa op kind misaligned question apart)
    (pages : ℕ → Bool) (rows : List EntryRow) → HasPages t leaf pages → AreRows t pages kind rows → (x : Values) → IsOf op x → HasAddress op x → is_aligned op x ≡ true → (outcome : ℕ) (reaches : Bool) → DoesRest t walk pa leaf (shape_with op outcome reaches) x
    → IsAddressed t leaf (shape_with op outcome reaches) x → HasWay op (data_ways t pa leaf op kind misaligned question apart rows) x outcome reaches
unfolding trap
does_row t walk pa leaf op kind misaligned question apart d pages rows has_pages are x is ea al outcome reaches r inside =
    let tell : Teller = by_answers t.known (given_by x) in
    let next : ℕ → Script Change = λ p. Ask (question x p) (λ v. Done (d.change x p v)) in
    let parts = then_done (data_script t kind x) (arriving t.fixed (word_of (instr_in x)) (x slots.Ea) next) tell r.log r.change (ap (λ (s : Script Change). answer_told tell s) (sym (d.reached x is ea al)) ∙ r.plays) in
    go parts.1 parts.0 parts.2 parts.3 parts.4 parts.5
  where
    walked : (log second : List Entry) (end : Reached) → answer_told (by_answers t.known (given_by x)) (data_script t kind x) ≡ Does log end → r.log ≡ log ++ second → Walked t pa kind x r.log log second end
    walked log second end h l =
        let in_log : (e : Entry) → HasItem log e → HasItem r.log e = λ e j. subst (λ (z : List Entry). HasItem z e) (sym l) (has_first log second e j) in
        let is_walk : data_walk t kind x ≡ log = ap (λ (a : Answer Entry Reached). log_of a) h in
        record {
          plays = h;
          split = l;
          numbers = walk_numbers t kind x (by_answers t.known (given_by x)) log end d.labels h;
          is_walk = is_walk;
          keeps = subst (λ (z : List Entry). walk_keeps t pa z ≡ true) (sym is_walk) (hold_all (λ e. is_free_entry t e && not_code t pa (entry_place e)) log
              (λ e j. and_from _ _ (r.free e (in_log e j)) (same_not (t.known (Word pa)) (Word pa) (entry_place e) (λ none q. r.one_role e (in_log e j) none q))));
        }

    go : (end : Reached) (log second : List Entry) → answer_told (by_answers t.known (given_by x)) (data_script t kind x) ≡ Does log end
        → answer_told (by_answers t.known (given_by x)) (arriving t.fixed (word_of (instr_in x)) (x slots.Ea) (λ p. Ask (question x p) (λ v. Done (d.change x p v))) end) ≡ Does second r.change → r.log ≡ log ++ second
        → HasWay op (data_ways t pa leaf op kind misaligned question apart rows) x outcome reaches
    go (At p) log second h k l =
        let s = same_done (data_entry t question x p ∷ []) second (d.change x p (told_of (question x p) (data_entry t question x p).value)) r.change (sym (asks t.known (given_by x) (question x p) (λ v. Done (d.change x p v))) ∙ k) in
        does_reach t walk pa leaf op kind misaligned question apart d pages rows has_pages are x is ea al outcome reaches r inside log p (walked log (data_entry t question x p ∷ []) (At p) h (l ∙ ap (λ (z : List Entry). log ++ z) (sym s.0)))
    go (Fails cause) log second h k l =
        let s = same_done (vector_entry t x cause ∷ []) second (trap_change t x cause (x slots.Ea)) r.change
        (sym (asks t.known (given_by x) (OfCsr FromVector (vector_at t.fixed cause)) (λ v. Done (went (word_of (instr_in x)) None (Trap (number_of cause) (x slots.Ea)) v))) ∙ k) in
        does_fault t walk pa leaf op kind misaligned question apart d pages rows has_pages are x is ea al outcome reaches r inside log cause (walked log (vector_entry t x cause ∷ []) (Fails cause) h (l ∙ ap (λ (z : List Entry). log ++ z) (sym s.0)))

-- THE WAYS OF A LOAD OR STORE
misses_traps : (t : Turn) (walk : List Entry) (pa : ℕ) (op : Op) (kind : Kind) (misaligned : Cause) (question : Values → ℕ → Question) (apart : Values → ℕ → Bool) → IsData t walk pa op kind misaligned question apart
    → (x : Values) → IsOf op x → HasAddress op x → is_aligned op x ≡ false → Traps t op x misaligned
misses_traps t walk pa op kind misaligned question apart d x is ea h = record { value = x slots.Ea; ends = d.misses x is ea h }

way_asks : (t : Turn) (walk : List Entry) (pa : ℕ) (leaf : List Atom) (op : Op) (kind : Kind) (misaligned : Cause) (question : Values → ℕ → Question) (apart : Values → ℕ → Bool) → IsData t walk pa op kind misaligned question apart → (x : Values) → IsOf op x
    → (row : EntryRow) (end : RowEnd) → ((h : row.holds (x slots.Ea) (x slots.FirstPte) (x slots.SecondPte) ≡ true) → (log : List Entry) × Walks t kind (x slots.Ea) (x slots.FirstPte) (x slots.SecondPte) log (end_at end (x slots.Ea)))
    → FitsWay (way_to t pa leaf op kind question apart row end) x → AsksUsed t (shape_with op (way_to t pa leaf op kind question apart row end).outcome (way_to t pa leaf op kind question apart row end).reaches) x
way_asks t walk pa leaf op kind misaligned question apart d x is row (Leads to) sound w = asks_used t op x 255 true refl (d.asks x is)
way_asks t walk pa leaf op kind misaligned question apart d x is row (Faults cause) sound w =
    let h = and_parts (in_row op row x) _ w.holds in
    let s = sound (and_parts (is_aligned op x) _ h.0).1 in
    asks_used t op x (number_of cause) false
    (plain_end (data_script t kind x) (by_answers t.known (entry_answers (x slots.FirstPte) (x slots.SecondPte))) s.0 (Fails cause) (translated_plain t.fixed.ram (data_view t.fixed) kind (x slots.Ea)) s.1.plays) (d.asks x is)

pub data_is_ways : (t : Turn) (walk : List Entry) (pa : ℕ) (leaf : List Atom) (op : Op) (kind : Kind) (misaligned : Cause) (question : Values → ℕ → Question) (apart : Values → ℕ → Bool) → IsFetched t walk pa → IsData t walk pa op kind misaligned question apart
    → (pages : ℕ → Bool) (rows : List EntryRow) → HasPages t leaf pages → AreRows t pages kind rows → IsWays t walk pa leaf op (data_ways t pa leaf op kind misaligned question apart rows)
data_is_ways t walk pa leaf op kind misaligned question apart f d pages rows has_pages are = record {
  does = λ x is ea way i w. elim i [
    | inl e ↦ let v : FitsWay (traps_when t misaligned (λ y. not (is_aligned op y))) x = subst (λ (z : Way). FitsWay z x) (sym e) w in
        subst (λ (z : Way). DoesRest t walk pa leaf (shape_with op z.outcome z.reaches) x) e
        (traps_does t walk pa leaf op x misaligned f is d.no_operand (misses_traps t walk pa op kind misaligned question apart d x is ea (not_true (is_aligned op x) v.holds)) (λ y. not (is_aligned op y)) v)
    | inr j ↦ let m = in_map (way_of t pa leaf op kind question apart) rows way j in
        let row : EntryRow = m.0 in
        let v : FitsWay (way_of t pa leaf op kind question apart row) x = subst (λ (z : Way). FitsWay z x) (sym m.2) w in
        subst (λ (z : Way). DoesRest t walk pa leaf (shape_with op z.outcome z.reaches) x) m.2
        (row_does t walk pa leaf op kind misaligned question apart d f x is ea row row.end (λ h. are.sound row m.1 (x slots.Ea) (x slots.FirstPte) (x slots.SecondPte) is.small h) v)
  ];
  fits = λ x is ea outcome reaches r inside. elim (cases_Bool (is_aligned op x)) [
    | inl y ↦ does_row t walk pa leaf op kind misaligned question apart d pages rows has_pages are x is ea y outcome reaches r inside
    | inr n ↦ let b = does_trap t walk pa leaf op x misaligned outcome reaches is d.no_operand (misses_traps t walk pa op kind misaligned question apart d x is ea n) r in
        record { way = traps_when t misaligned (λ y. not (is_aligned op y)); is = inl refl; fits = record { each = b.each; holds = ap not n }; outcome_is = b.outcome_is; reaches_is = b.reaches_is }
  ];
  asks = λ x is way i w. elim i [
    | inl e ↦ subst (λ (z : Way). AsksUsed t (shape_with op z.outcome z.reaches) x) e (asks_used t op x (number_of misaligned) false d.cause (d.asks x is))
    | inr j ↦ let m = in_map (way_of t pa leaf op kind question apart) rows way j in
        let row : EntryRow = m.0 in
        let v : FitsWay (way_of t pa leaf op kind question apart row) x = subst (λ (z : Way). FitsWay z x) (sym m.2) w in
        subst (λ (z : Way). AsksUsed t (shape_with op z.outcome z.reaches) x) m.2
        (way_asks t walk pa leaf op kind misaligned question apart d x is row row.end (λ h. are.sound row m.1 (x slots.Ea) (x slots.FirstPte) (x slots.SecondPte) is.small h) v)
  ];
}
