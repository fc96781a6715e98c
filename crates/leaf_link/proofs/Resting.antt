-- What rests do that ask for nothing, or for a vector alone.
use Rattle.std.proofs.Common.{◌≡◌, ℕ, if◌then◌else◌, ◌^◌, ◌<◌, ◌&&◌, ◌==◌, not, Bool, true, false, eqb, ltb, List, [], ◌∷◌, ◌++◌, Option, Some, None, refl, sym, ap, ◌∙◌, subst, inl, inr, arith}
use Rattle.std.proofs.lemmas.Bool.{eq-eqb, eqb-true, cases_Bool}
use Rattle.dom_set.specs.Elements.{is_in}
use Rattle.rv_isa.specs.declared.instruction.Instr.{Instr}
use Rattle.rv_isa.specs.declared.operation.Op.{Op}
use Rattle.rv_isa.specs.Encoding.{word_of}
use Rattle.rv_isa.specs.Fields.{reads_rs1, reads_rs2}
use Rattle.rv_isa.specs.Table.{row_of}
use Rattle.rv_csr.specs.declared.cause.Cause.{Cause}
use Rattle.rv_csr.specs.Causes.{number_of}
use Rattle.rv_script.specs.declared.access.Access.{Access}
use Rattle.rv_script.specs.declared.access.Role.{Role}
use Rattle.rv_script.specs.declared.access.Role.TheVariants.{Fetch, Walk, Load, Store}
use Rattle.rv_script.specs.declared.place.Place.TheVariants.{Csr}
use Rattle.rv_script.specs.Bytes.{is_look}
use Rattle.rv_script.specs.Lists.{HasItem}
use Rattle.rv_script.specs.Script.{Label, Label.FetchRoot, Label.FromCsr, Label.DataRoot, Label.DataSecond, Label.DataWord, Label.FromVector, Question, Question.OfRegister, Question.OfCsr, Question.OfMemory, Question.ToMemory, access_of, role_of, Script, Script.Done}
use Rattle.rv_script.specs.Folds.{Known, Answer.Does, Entry, on_note}
use Rattle.foot_map.specs.Races.{breaks, Meet}
use Rattle.rv_hart.specs.declared.record.Change.{Change}
use Rattle.rv_hart.specs.declared.record.Control.TheVariants.{Trap}
use Rattle.rv_hart.specs.Changes.{outcome_of}
use Rattle.rv_hart.specs.Fixed.{Fixed}
use Rattle.rv_hart.specs.Privileged.{trap, went}
use Rattle.tpl_ast.specs.declared.template.Atom.{Atom}
use Rattle.tpl_ast.specs.declared.template.Var.TheVariants as vars
use Rattle.tpl_admit.specs.Variables.{data_address, outcome_in}
use Rattle.fd_prob.specs.declared.slot.Slot.{Slot}
use Rattle.fd_prob.specs.declared.slot.Slot.TheVariants as slots
use Rattle.rv_script.specs.Labels.{question_number}
use Rattle.rv_script.specs.Logs.{entry_place, entry_label, answer_told, labelled, value_or, by_answers, answer, new_value, if_new, Coherent}
use Rattle.leaf_link.specs.Turns.{Turn, is_free_entry, may_start}
use Rattle.leaf_link.specs.Values.{Values, instr_in, given_by, has_csr_operand, old_csr}
use Rattle.leaf_link.specs.Candidates.{accesses_in}
use Rattle.leaf_link.specs.Cases.{Way, all_tests, fetch_entry, is_some_word}
use Rattle.leaf_link.specs.Ways.{AsksUsed, DoesRest, FitsWay, IsFetched, IsOf, IsReach, IsWays, shape_with, step_accesses}
use Rattle.rv_hart.specs.Rests.{asks_rs1}
use Rattle.leaf_link.specs.Kinds.{always, forks, nothing_new, retires, retires_when, traps, traps_when, vector_alone, vector_at}
use Rattle.rv_script.proofs.Plays.{asks}
use Rattle.rv_script.proofs.Items.{has_either}
use Rattle.leaf_link.proofs.Front.{rest_of, same_done, walk_first}
use Rattle.leaf_link.proofs.Both.{each_slot}

-- ACCESSES THAT ONLY LOOK
pub accessed : (xs : List Entry) (y : Access) → HasItem (accesses_in xs) y → (e : Entry) × HasItem xs e × (access_of e.question e.value ≡ Some y)
accessed [] y i = absurd i
accessed (e ∷ xs) y i = go (access_of e.question e.value) refl i (λ j. accessed xs y j)
  where
    go : (o : Option Access) → access_of e.question e.value ≡ o → HasItem (on_note o (accesses_in xs)) y → (HasItem (accesses_in xs) y → (d : Entry) × HasItem xs d × (access_of d.question d.value ≡ Some y))
        → (d : Entry) × HasItem (e ∷ xs) d × (access_of d.question d.value ≡ Some y)
    go None h j rec = let r = rec j in (r.0, inr r.1, r.2)
    go (Some a) h j rec = elim j [
      | inl same ↦ (e, inl refl, h ∙ ap (λ (z : Access). Some z) same)
      | inr k ↦ let r = rec k in (r.0, inr r.1, r.2)
    ]

abbrev pub is_write : Question → Bool
is_write (ToMemory addr size value) = true
is_write (OfMemory label addr size) = false
is_write (OfRegister label n) = false
is_write (OfCsr label addr) = false

role_looks : (l : Label) → is_look (role_of l) ≡ true
role_looks FetchRoot = refl
role_looks _ = refl

pub looks : (q : Question) (v : ℕ) (y : Access) → is_write q ≡ false → access_of q v ≡ Some y → is_look y.role ≡ true
looks (OfRegister label n) v y w h = absurd (cc)
looks (OfCsr label addr) v y w h = absurd (cc)
looks (OfMemory label addr size) v y w h = let e : role_of label ≡ y.role = ap (λ (o : Option Access). elim o [ None ↦ role_of label | Some a ↦ a.role ]) h in subst (λ (r : Role). is_look r ≡ true) e (role_looks label)
looks (ToMemory addr size value) v y w h = absurd (cc)

pub looks_apart : (r s : Role) → is_look r ≡ true → is_look s ≡ true → breaks true r s ≡ false
looks_apart Fetch Fetch h k = refl
looks_apart Fetch Walk h k = refl
looks_apart Fetch Load h k = refl
looks_apart Fetch Store h k = absurd (cc)
looks_apart Walk Fetch h k = refl
looks_apart Walk Walk h k = refl
looks_apart Walk Load h k = refl
looks_apart Walk Store h k = absurd (cc)
looks_apart Load Fetch h k = refl
looks_apart Load Walk h k = refl
looks_apart Load Load h k = refl
looks_apart Load Store h k = absurd (cc)
looks_apart Store s h k = absurd (cc)

early_reads : (q : Question) → question_number q < 2 → is_write q ≡ false
early_reads (OfRegister label n) h = refl
early_reads (OfCsr label addr) h = refl
early_reads (OfMemory label addr size) h = refl
early_reads (ToMemory addr size value) h = absurd (omega (arith, h))

-- a step that writes nothing races with nothing of its own
pub quiet_apart : (t : Turn) (walk : List Entry) (pa w : ℕ) (log : List Entry) → IsFetched t walk pa → ((e : Entry) → HasItem log e → is_write e.question ≡ false)
    → (y z : Access) → HasItem (step_accesses t walk pa w log) y → HasItem (step_accesses t walk pa w log) z → Meet y z → breaks true y.role z.role ≡ false
quiet_apart t walk pa w log f quiet y z i j m = looks_apart y.role z.role (one y i) (one z j)
  where
    one : (y : Access) → HasItem (step_accesses t walk pa w log) y → is_look y.role ≡ true
    one y i =
        let a = accessed (walk ++ fetch_entry t pa w ∷ log) y i in
        looks a.0.question a.0.value y (elim (has_either walk (fetch_entry t pa w ∷ log) a.0 a.1) [
          | inl h ↦ early_reads a.0.question (walk_first t walk pa f a.0 h)
          | inr h ↦ elim h [
            | inl same ↦ subst (λ (e : Entry). is_write e.question ≡ false) same refl
            | inr k ↦ quiet a.0 k
          ]
        ]) a.2

-- it retires
pub record Retires (t : Turn) (op : Op) (x : Values) : Type 0 where
  pub change : Change
  pub ends : rest_of t op x (x slots.A) (x slots.B) ≡ Done change
  pub word : change.word ≡ word_of (instr_in x)
  pub outcome : outcome_in (outcome_of t.fixed change.control) ≡ 255

pub no_operand : (f : Fixed) (i : Instr) → has_csr_operand (row_of i.op) ≡ false → old_csr f i None ≡ 0
no_operand f i h = ap (λ (b : Bool). if b then (if Rattle.rv_hart.specs.Privileged.reads_csr i then Rattle.leaf_link.specs.Values.fixed_value f (Rattle.rv_csr.specs.Access.access_of f.mstatus i.csr f.privilege (Rattle.rv_hart.specs.Privileged.writes_csr i.op (Rattle.leaf_link.specs.Values.field_of_operand (row_of i.op) i))) else 0) else 0) h

pub no_csr : (t : Turn) (op : Op) (x : Values) → IsOf op x → has_csr_operand (row_of op) ≡ false → old_csr t.fixed (instr_in x) None ≡ 0
no_csr t op x is h = no_operand t.fixed (instr_in x) (ap (λ (o : Op). has_csr_operand (row_of o)) is.op_is ∙ h)

retires_plays : (t : Turn) (op : Op) (x : Values) (r : Retires t op x) → answer_told (by_answers t.known (given_by x)) (rest_of t op x (x slots.A) (x slots.B)) ≡ Does [] r.change
retires_plays t op x r = ap (λ (s : Script Change). answer_told (by_answers t.known (given_by x)) s) r.ends

pub retires_does : (t : Turn) (walk : List Entry) (pa : ℕ) (leaf : List Atom) (op : Op) (x : Values) → IsFetched t walk pa → IsOf op x → has_csr_operand (row_of op) ≡ false → Retires t op x → (test : Values → Bool) → FitsWay (retires_when test) x
    → DoesRest t walk pa leaf (shape_with op 255 false) x
retires_does t walk pa leaf op x f is plain r test w = record {
  log = [];
  change = r.change;
  plays = retires_plays t op x r;
  word = r.word;
  outcome = r.outcome;
  reach = tt;
  may = λ e i. absurd i;
  free = λ e i. absurd i;
  coherent = λ e g i. absurd i;
  one_role = λ e i. absurd i;
  apart = quiet_apart t walk pa (word_of (instr_in x)) [] f (λ e i. absurd i);
  first = eqb-true _ _ (w.each slots.FirstPte);
  second = eqb-true _ _ (w.each slots.SecondPte);
  data_word = eqb-true _ _ (w.each slots.DataWord);
  old = eqb-true _ _ (w.each slots.OldCsr) ∙ sym (no_csr t op x is plain);
  vector = eqb-true _ _ (w.each slots.Vector);
}

-- where it retires, that is what it does
pub record Retired (x : Values) (outcome : ℕ) (reaches : Bool) : Type 0 where
  pub each : (s : Slot) → nothing_new s (x s) ≡ true
  pub outcome_is : 255 ≡ outcome
  pub reaches_is : false ≡ reaches

pub reach_none : (wanted : ℕ → Bool) (r : Bool) → IsReach wanted r None → false ≡ r
reach_none wanted true h = absurd h
reach_none wanted false h = refl

pub does_retire : (t : Turn) (walk : List Entry) (pa : ℕ) (leaf : List Atom) (op : Op) (x : Values) (outcome : ℕ) (reaches : Bool) → IsOf op x → has_csr_operand (row_of op) ≡ false → Retires t op x → DoesRest t walk pa leaf (shape_with op outcome reaches) x
    → Retired x outcome reaches
does_retire t walk pa leaf op x outcome reaches is plain r d =
    let same = same_done [] d.log r.change d.change (sym (retires_plays t op x r) ∙ d.plays) in
    record {
      each = each_slot (λ s. nothing_new s (x s) ≡ true) (record {
        op_slot = refl;
        rs1_slot = refl;
        rs2_slot = refl;
        imm_slot = refl;
        rd_slot = refl;
        csr_slot = refl;
        ea_slot = refl;
        a_slot = refl;
        b_slot = refl;
        first_slot = eq-eqb _ _ (d.first ∙ ap (λ (l : List Entry). new_value t.known (labelled l DataRoot)) (sym same.0));
        second_slot = eq-eqb _ _ (d.second ∙ ap (λ (l : List Entry). new_value t.known (labelled l DataSecond)) (sym same.0));
        data_slot = eq-eqb _ _ (d.data_word ∙ ap (λ (l : List Entry). new_value t.known (labelled l DataWord)) (sym same.0));
        old_slot = eq-eqb _ _ (d.old ∙ ap (λ (l : List Entry). old_csr t.fixed (instr_in x) (labelled l FromCsr)) (sym same.0) ∙ no_csr t op x is plain);
        vector_slot = eq-eqb _ _ (d.vector ∙ ap (λ (l : List Entry). new_value t.known (labelled l FromVector)) (sym same.0));
      });
      outcome_is = sym r.outcome ∙ ap (λ (c : Change). outcome_in (outcome_of t.fixed c.control)) same.1 ∙ d.outcome;
      reaches_is = reach_none (all_tests t leaf vars.Pa) reaches (subst (λ (l : List Entry). IsReach (all_tests t leaf vars.Pa) reaches (data_address (accesses_in l))) (sym same.0) d.reach);
    }

-- it traps
pub record Traps (t : Turn) (op : Op) (x : Values) (cause : Cause) : Type 0 where
  pub value : ℕ
  pub ends : rest_of t op x (x slots.A) (x slots.B) ≡ trap t.fixed (word_of (instr_in x)) cause value

abbrev pub vector_entry : Turn → Values → Cause → Entry
vector_entry t x cause = answer t.known (given_by x) (OfCsr FromVector (vector_at t.fixed cause))

abbrev pub trap_change : Turn → Values → Cause → ℕ → Change
trap_change t x cause value = went (word_of (instr_in x)) None (Trap (number_of cause) value) (vector_entry t x cause).value

traps_plays : (t : Turn) (op : Op) (x : Values) (cause : Cause) (r : Traps t op x cause) → answer_told (by_answers t.known (given_by x)) (rest_of t op x (x slots.A) (x slots.B)) ≡ Does (vector_entry t x cause ∷ []) (trap_change t x cause r.value)
unfolding trap
traps_plays t op x cause r =
    ap (λ (s : Script Change). answer_told (by_answers t.known (given_by x)) s) r.ends
    ∙ asks t.known (given_by x) (OfCsr FromVector (vector_at t.fixed cause)) (λ v. Done (went (word_of (instr_in x)) None (Trap (number_of cause) r.value) v))

pub vector_to : (t : Turn) (o : Option ℕ) (v : ℕ) → (if is_some_word o then eqb v 0 else (ltb v (2 ^ 32) && is_in t.vectors v)) ≡ true → (o ≡ None → (ltb (value_or o v) (2 ^ 32) && is_in t.vectors (value_or o v)) ≡ true) × (v ≡ if_new o (value_or o v))
vector_to t (Some w) v h = (λ n. absurd (cc), eqb-true _ _ h)
vector_to t None v h = (λ n. h, refl)

pub vector_from : (t : Turn) (o : Option ℕ) (v : ℕ) → (o ≡ None → (ltb (value_or o v) (2 ^ 32) && is_in t.vectors (value_or o v)) ≡ true) → v ≡ if_new o (value_or o v) → (if is_some_word o then eqb v 0 else (ltb v (2 ^ 32) && is_in t.vectors v)) ≡ true
vector_from t (Some w) v h e = eq-eqb _ _ e
vector_from t None v h e = h refl

pub one_coherent : (k : Known) (e : Entry) → Coherent k (e ∷ [])
one_coherent k d e g i j none q = elim i [
  | inl h ↦ elim j [
    | inl l ↦ let s : e ≡ g = sym h ∙ l in (λ w. ap (λ (z : Entry). entry_label z) s, ap (λ (z : Entry). z.value) s)
    | inr m ↦ absurd m
  ]
  | inr m ↦ absurd m
]

pub traps_does_with : (t : Turn) (walk : List Entry) (pa : ℕ) (leaf : List Atom) (op : Op) (x : Values) (cause : Cause) → IsFetched t walk pa → IsOf op x → old_csr t.fixed (instr_in x) None ≡ 0 → Traps t op x cause → (test : Values → Bool) → FitsWay (traps_when t cause test) x
    → DoesRest t walk pa leaf (shape_with op (number_of cause) false) x
traps_does_with t walk pa leaf op x cause f is old r test w =
    let one : Entry = vector_entry t x cause in
    let v = vector_to t (t.known (Csr (vector_at t.fixed cause))) (x slots.Vector) (w.each slots.Vector) in
    record {
      log = one ∷ [];
      change = trap_change t x cause r.value;
      plays = traps_plays t op x cause r;
      word = refl;
      outcome = refl;
      reach = tt;
      may = λ e i none. elim i [ inl h ↦ subst (λ (z : Entry). may_start t (instr_in x) (entry_label z) (entry_place z) z.value ≡ true) h (v.0 (ap (λ (z : Entry). t.known (entry_place z)) h ∙ none)) | inr n ↦ absurd n ];
      free = λ e i. elim i [ inl h ↦ subst (λ (z : Entry). is_free_entry t z ≡ true) h refl | inr n ↦ absurd n ];
      coherent = one_coherent t.known one;
      one_role = λ e i none q. elim i [ inl h ↦ let z : Csr (vector_at t.fixed cause) ≡ entry_place e = ap (λ (y : Entry). entry_place y) h in absurd (cc) | inr m ↦ absurd m ];
      apart = quiet_apart t walk pa (word_of (instr_in x)) (one ∷ []) f (λ e i. elim i [ inl h ↦ subst (λ (z : Entry). is_write z.question ≡ false) h refl | inr m ↦ absurd m ]);
      first = eqb-true _ _ (w.each slots.FirstPte);
      second = eqb-true _ _ (w.each slots.SecondPte);
      data_word = eqb-true _ _ (w.each slots.DataWord);
      old = eqb-true _ _ (w.each slots.OldCsr) ∙ sym old;
      vector = v.1;
    }

pub traps_does : (t : Turn) (walk : List Entry) (pa : ℕ) (leaf : List Atom) (op : Op) (x : Values) (cause : Cause) → IsFetched t walk pa → IsOf op x → has_csr_operand (row_of op) ≡ false → Traps t op x cause → (test : Values → Bool) → FitsWay (traps_when t cause test) x
    → DoesRest t walk pa leaf (shape_with op (number_of cause) false) x
traps_does t walk pa leaf op x cause f is plain r test w = traps_does_with t walk pa leaf op x cause f is (no_csr t op x is plain) r test w

pub record Trapped (t : Turn) (x : Values) (cause : Cause) (outcome : ℕ) (reaches : Bool) : Type 0 where
  pub each : (s : Slot) → vector_alone t cause s (x s) ≡ true
  pub outcome_is : number_of cause ≡ outcome
  pub reaches_is : false ≡ reaches

pub does_trap_with : (t : Turn) (walk : List Entry) (pa : ℕ) (leaf : List Atom) (op : Op) (x : Values) (cause : Cause) (outcome : ℕ) (reaches : Bool) → IsOf op x → old_csr t.fixed (instr_in x) None ≡ 0 → Traps t op x cause → DoesRest t walk pa leaf (shape_with op outcome reaches) x
    → Trapped t x cause outcome reaches
does_trap_with t walk pa leaf op x cause outcome reaches is old r d =
    let one : Entry = vector_entry t x cause in
    let same = same_done (one ∷ []) d.log (trap_change t x cause r.value) d.change (sym (traps_plays t op x cause r) ∙ d.plays) in
    record {
      each = each_slot (λ s. vector_alone t cause s (x s) ≡ true) (record {
        op_slot = refl;
        rs1_slot = refl;
        rs2_slot = refl;
        imm_slot = refl;
        rd_slot = refl;
        csr_slot = refl;
        ea_slot = refl;
        a_slot = refl;
        b_slot = refl;
        first_slot = eq-eqb _ _ (d.first ∙ ap (λ (l : List Entry). new_value t.known (labelled l DataRoot)) (sym same.0));
        second_slot = eq-eqb _ _ (d.second ∙ ap (λ (l : List Entry). new_value t.known (labelled l DataSecond)) (sym same.0));
        data_slot = eq-eqb _ _ (d.data_word ∙ ap (λ (l : List Entry). new_value t.known (labelled l DataWord)) (sym same.0));
        old_slot = eq-eqb _ _ (d.old ∙ ap (λ (l : List Entry). old_csr t.fixed (instr_in x) (labelled l FromCsr)) (sym same.0) ∙ old);
        vector_slot = vector_from t (t.known (Csr (vector_at t.fixed cause))) (x slots.Vector)
            (d.may one (subst (λ (l : List Entry). HasItem l one) same.0 (inl refl)))
            (d.vector ∙ ap (λ (l : List Entry). new_value t.known (labelled l FromVector)) (sym same.0));
      });
      outcome_is = ap (λ (c : Change). outcome_in (outcome_of t.fixed c.control)) same.1 ∙ d.outcome;
      reaches_is = reach_none (all_tests t leaf vars.Pa) reaches (subst (λ (l : List Entry). IsReach (all_tests t leaf vars.Pa) reaches (data_address (accesses_in l))) (sym same.0) d.reach);
    }

pub does_trap : (t : Turn) (walk : List Entry) (pa : ℕ) (leaf : List Atom) (op : Op) (x : Values) (cause : Cause) (outcome : ℕ) (reaches : Bool) → IsOf op x → has_csr_operand (row_of op) ≡ false → Traps t op x cause → DoesRest t walk pa leaf (shape_with op outcome reaches) x
    → Trapped t x cause outcome reaches
does_trap t walk pa leaf op x cause outcome reaches is plain r d = does_trap_with t walk pa leaf op x cause outcome reaches is (no_csr t op x is plain) r d

-- KINDS
-- what is asked for is what is used, where the outcome is not 2
abbrev pub AsksAll : Turn → Op → Type 0
AsksAll t op = (x : Values) → IsOf op x → asks_rs1 (row_of op) t.fixed (instr_in x) ≡ reads_rs1 (row_of op)

and_true : (b : Bool) → b ≡ (b && true)
and_true true = refl
and_true false = refl

pub asks_used : (t : Turn) (op : Op) (x : Values) (outcome : ℕ) (reaches : Bool) → (outcome == 2) ≡ false → asks_rs1 (row_of op) t.fixed (instr_in x) ≡ reads_rs1 (row_of op) → AsksUsed t (shape_with op outcome reaches) x
asks_used t op x outcome reaches n h = record {
  first = h ∙ and_true (reads_rs1 (row_of op)) ∙ ap (λ (b : Bool). reads_rs1 (row_of op) && not b) (sym n);
  second = and_true (reads_rs2 (row_of op)) ∙ ap (λ (b : Bool). reads_rs2 (row_of op) && not b) (sym n);
}

pub in_one : {A : Type 0} (x y : A) → HasItem (x ∷ []) y → x ≡ y
in_one x y i = elim i [ inl h ↦ h | inr n ↦ absurd n ]

-- it always retires
pub retires_ways : (t : Turn) (walk : List Entry) (pa : ℕ) (leaf : List Atom) (op : Op) → IsFetched t walk pa → has_csr_operand (row_of op) ≡ false → AsksAll t op → ((x : Values) → IsOf op x → Retires t op x) → IsWays t walk pa leaf op retires
retires_ways t walk pa leaf op f plain all ends = record {
  does = λ x is ea way i w. let e : retires_when always ≡ way = in_one (retires_when always) way i in
      subst (λ (z : Way). DoesRest t walk pa leaf (shape_with op z.outcome z.reaches) x) e (retires_does t walk pa leaf op x f is plain (ends x is) always (subst (λ (z : Way). FitsWay z x) (sym e) w));
  fits = λ x is ea outcome reaches d inside. let r = does_retire t walk pa leaf op x outcome reaches is plain (ends x is) d in
      record { way = retires_when always; is = inl refl; fits = record { each = r.each; holds = refl }; outcome_is = r.outcome_is; reaches_is = r.reaches_is };
  asks = λ x is way i w. let e : retires_when always ≡ way = in_one (retires_when always) way i in
      subst (λ (z : Way). AsksUsed t (shape_with op z.outcome z.reaches) x) e (asks_used t op x 255 false refl (all x is));
}

-- it always traps
pub traps_ways : (t : Turn) (walk : List Entry) (pa : ℕ) (leaf : List Atom) (op : Op) (cause : Cause) → IsFetched t walk pa → has_csr_operand (row_of op) ≡ false
    → ((x : Values) → IsOf op x → AsksUsed t (shape_with op (number_of cause) false) x) → ((x : Values) → IsOf op x → Traps t op x cause) → IsWays t walk pa leaf op (traps t cause)
traps_ways t walk pa leaf op cause f plain all ends = record {
  does = λ x is ea way i w. let e : traps_when t cause always ≡ way = in_one (traps_when t cause always) way i in
      subst (λ (z : Way). DoesRest t walk pa leaf (shape_with op z.outcome z.reaches) x) e (traps_does t walk pa leaf op x cause f is plain (ends x is) always (subst (λ (z : Way). FitsWay z x) (sym e) w));
  fits = λ x is ea outcome reaches d inside. let r = does_trap t walk pa leaf op x cause outcome reaches is plain (ends x is) d in
      record { way = traps_when t cause always; is = inl refl; fits = record { each = r.each; holds = refl }; outcome_is = r.outcome_is; reaches_is = r.reaches_is };
  asks = λ x is way i w. let e : traps_when t cause always ≡ way = in_one (traps_when t cause always) way i in
      subst (λ (z : Way). AsksUsed t (shape_with op z.outcome z.reaches) x) e (all x is);
}

pub not_true : (b : Bool) → not b ≡ true → b ≡ false
not_true true h = absurd (cc)
not_true false h = refl

-- it retires where a test holds, and else traps
pub forks_ways : (t : Turn) (walk : List Entry) (pa : ℕ) (leaf : List Atom) (op : Op) (cause : Cause) (test : Values → Bool) → IsFetched t walk pa → has_csr_operand (row_of op) ≡ false → AsksAll t op → (number_of cause == 2) ≡ false
    → ((x : Values) → IsOf op x → test x ≡ true → Retires t op x) → ((x : Values) → IsOf op x → test x ≡ false → Traps t op x cause) → IsWays t walk pa leaf op (forks t cause test)
forks_ways t walk pa leaf op cause test f plain all apart ends fails = record {
  does = λ x is ea way i w. elim i [
    | inl e ↦ let v : FitsWay (retires_when test) x = subst (λ (z : Way). FitsWay z x) (sym e) w in
        subst (λ (z : Way). DoesRest t walk pa leaf (shape_with op z.outcome z.reaches) x) e (retires_does t walk pa leaf op x f is plain (ends x is v.holds) test v)
    | inr j ↦ let e : traps_when t cause (λ y. not (test y)) ≡ way = in_one _ way j in
        let v : FitsWay (traps_when t cause (λ y. not (test y))) x = subst (λ (z : Way). FitsWay z x) (sym e) w in
        subst (λ (z : Way). DoesRest t walk pa leaf (shape_with op z.outcome z.reaches) x) e (traps_does t walk pa leaf op x cause f is plain (fails x is (not_true (test x) v.holds)) (λ y. not (test y)) v)
  ];
  fits = λ x is ea outcome reaches d inside. elim (cases_Bool (test x)) [
    | inl y ↦ let r = does_retire t walk pa leaf op x outcome reaches is plain (ends x is y) d in
        record { way = retires_when test; is = inl refl; fits = record { each = r.each; holds = y }; outcome_is = r.outcome_is; reaches_is = r.reaches_is }
    | inr n ↦ let r = does_trap t walk pa leaf op x cause outcome reaches is plain (fails x is n) d in
        record { way = traps_when t cause (λ y. not (test y)); is = inr (inl refl); fits = record { each = r.each; holds = ap not n }; outcome_is = r.outcome_is; reaches_is = r.reaches_is }
  ];
  asks = λ x is way i w. elim i [
    | inl e ↦ subst (λ (z : Way). AsksUsed t (shape_with op z.outcome z.reaches) x) e (asks_used t op x 255 false refl (all x is))
    | inr j ↦ let e : traps_when t cause (λ y. not (test y)) ≡ way = in_one _ way j in
        subst (λ (z : Way). AsksUsed t (shape_with op z.outcome z.reaches) x) e (asks_used t op x (number_of cause) false apart (all x is))
  ];
}
