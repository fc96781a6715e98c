-- The laws of CSR instructions and of returns from traps.
use Rattle.std.proofs.Common.{◌≡◌, ℕ, if◌then◌else◌, ◌^◌, ◌&&◌, Bool, true, false, eqb, ltb, List, [], ◌∷◌, Option, Some, None, refl, sym, ap, ◌∙◌, subst, inl, inr}
use Rattle.std.proofs.lemmas.Bool.{eq-eqb, eqb-true}
use Rattle.rv_isa.specs.declared.operation.Op.{Op}
use Rattle.rv_isa.specs.declared.operation.Op.TheVariants.{Mret, Sret}
use Rattle.rv_isa.specs.Encoding.{word_of}
use Rattle.rv_csr.specs.declared.cause.Cause.TheVariants.{Illegal}
use Rattle.rv_csr.specs.declared.status.Flag.TheVariants.{Tsr}
use Rattle.rv_csr.specs.declared.table.LazyRegister.TheVariants.{Mepc, Sepc}
use Rattle.rv_csr.specs.Privilege.{is_machine}
use Rattle.rv_script.specs.declared.place.Place.TheVariants.{Csr}
use Rattle.rv_script.specs.Lists.{HasItem}
use Rattle.rv_script.specs.Script.{Label, Label.FromCsr, Label.FromVector, Label.DataRoot, Label.DataSecond, Label.DataWord, Question.OfCsr, Script, Script.Ask, Script.Done}
use Rattle.rv_script.specs.Folds.{Answer.Does, Entry}
use Rattle.rv_hart.specs.declared.record.Change.{Change}
use Rattle.rv_hart.specs.declared.record.Control.TheVariants.{Mret as GoesM, Sret as GoesS}
use Rattle.rv_hart.specs.Changes.{outcome_of}
use Rattle.rv_hart.specs.Privileged.{is_withheld, lazy_address, mret_row, sret_row, went}
use Rattle.tpl_ast.specs.declared.template.Atom.{Atom}
use Rattle.tpl_ast.specs.declared.template.Var.TheVariants as vars
use Rattle.tpl_admit.specs.Variables.{data_address, outcome_in}
use Rattle.fd_prob.specs.declared.slot.Slot.{Slot}
use Rattle.fd_prob.specs.declared.slot.Slot.TheVariants as slots
use Rattle.rv_script.specs.Logs.{entry_place, entry_label, answer_told, labelled, value_or, by_answers, answer, new_value}
use Rattle.leaf_link.specs.Turns.{Turn, is_free_entry, may_be_old, may_start}
use Rattle.leaf_link.specs.Values.{Values, given_by, instr_in, old_csr}
use Rattle.leaf_link.specs.Candidates.{accesses_in}
use Rattle.leaf_link.specs.Cases.{Shape, Way, all_tests}
use Rattle.leaf_link.specs.Ways.{AsksUsed, DoesRest, FitsWay, IsFetched, IsOf, IsReach, IsWays, shape_with}
use Rattle.leaf_link.specs.Kinds.{traps}
use Rattle.leaf_link.specs.Controls.{ReturnsAreExact, ends_when, is_old, is_old_value, mret_ways, old_new, return_ways, sret_ways}
use Rattle.rv_script.proofs.Plays.{asks}
use Rattle.leaf_link.proofs.Front.{rest_of, same_done}
use Rattle.leaf_link.proofs.Both.{each_slot}
use Rattle.leaf_link.proofs.Resting.{in_one, is_write, one_coherent, quiet_apart, reach_none, traps_ways}
use Rattle.leaf_link.proofs.Operations.{exact, if_no, if_yes}

abbrev pub old_entry : Turn → Values → ℕ → Entry
old_entry t x addr = answer t.known (given_by x) (OfCsr FromCsr addr)

-- it asks for an old value, and ends
pub record AsksOld (t : Turn) (op : Op) (x : Values) (addr : ℕ) : Type 0 where
  pub next : ℕ → Script Change
  pub ends : rest_of t op x (x slots.A) (x slots.B) ≡ Ask (OfCsr FromCsr addr) next

-- an end with the fetched word, that retires
pub record Retiring (t : Turn) (x : Values) (s : Script Change) : Type 0 where
  pub change : Change
  pub ends : s ≡ Done change
  pub word : change.word ≡ word_of (instr_in x)
  pub outcome : outcome_in (outcome_of t.fixed change.control) ≡ 255

abbrev pub zero_slots : Values → Slot → Type 0
zero_slots x s = old_new s (x s) ≡ true

pub old_plays : (t : Turn) (op : Op) (x : Values) (addr : ℕ) (a : AsksOld t op x addr) (r : Retiring t x (a.next (old_entry t x addr).value)) → answer_told (by_answers t.known (given_by x)) (rest_of t op x (x slots.A) (x slots.B)) ≡ Does (old_entry t x addr ∷ []) r.change
old_plays t op x addr a r =
    ap (λ (s : Script Change). answer_told (by_answers t.known (given_by x)) s) a.ends ∙ asks t.known (given_by x) (OfCsr FromCsr addr) a.next
    ∙ ap (λ (s : Script Change). Rattle.rv_script.proofs.Plays.after (old_entry t x addr) (answer_told (by_answers t.known (given_by x)) s)) r.ends

pub old_to : (t : Turn) (o : Option ℕ) (addr v : ℕ) → is_old_value t o addr v ≡ true → (o ≡ None → (ltb (value_or o v) (2 ^ 32) && may_be_old t addr (value_or o v)) ≡ true) × (v ≡ value_or o v)
old_to t (Some w) addr v h = (λ n. absurd (cc), eqb-true _ _ h)
old_to t None addr v h = (λ n. h, refl)

pub old_from : (t : Turn) (o : Option ℕ) (addr v : ℕ) → (o ≡ None → (ltb (value_or o v) (2 ^ 32) && may_be_old t addr (value_or o v)) ≡ true) → v ≡ value_or o v → is_old_value t o addr v ≡ true
old_from t (Some w) addr v h e = eq-eqb _ _ e
old_from t None addr v h e = h refl

pub old_does : (t : Turn) (walk : List Entry) (pa : ℕ) (leaf : List Atom) (op : Op) (x : Values) (addr : ℕ) → IsFetched t walk pa → (a : AsksOld t op x addr) → Retiring t x (a.next (old_entry t x addr).value) → ((s : Slot) → zero_slots x s) → is_old t addr (x slots.OldCsr) ≡ true
    → DoesRest t walk pa leaf (shape_with op 255 false) x
old_does t walk pa leaf op x addr f a r z h =
    let one : Entry = old_entry t x addr in
    let o = old_to t (t.known (Csr addr)) addr (x slots.OldCsr) h in
    record {
      log = one ∷ [];
      change = r.change;
      plays = old_plays t op x addr a r;
      word = r.word;
      outcome = r.outcome;
      reach = tt;
      may = λ e i none. elim i [ inl h ↦ subst (λ (z : Entry). may_start t (instr_in x) (entry_label z) (entry_place z) z.value ≡ true) h (o.0 (ap (λ (z : Entry). t.known (entry_place z)) h ∙ none)) | inr n ↦ absurd n ];
      free = λ e i. elim i [ inl h ↦ subst (λ (z : Entry). is_free_entry t z ≡ true) h refl | inr n ↦ absurd n ];
      coherent = one_coherent t.known one;
      one_role = λ e i none q. elim i [ inl h ↦ let z : Csr addr ≡ entry_place e = ap (λ (y : Entry). entry_place y) h in absurd (cc) | inr m ↦ absurd m ];
      apart = quiet_apart t walk pa (word_of (instr_in x)) (one ∷ []) f (λ e i. elim i [ inl h ↦ subst (λ (z : Entry). is_write z.question ≡ false) h refl | inr m ↦ absurd m ]);
      first = eqb-true _ _ (z slots.FirstPte);
      second = eqb-true _ _ (z slots.SecondPte);
      data_word = eqb-true _ _ (z slots.DataWord);
      vector = eqb-true _ _ (z slots.Vector);
      old = o.1;
    }

-- where no entry, no data word and no vector is asked for, none is new
none_started : (t : Turn) (walk : List Entry) (pa : ℕ) (leaf : List Atom) (s : Shape) (x : Values) → (d : DoesRest t walk pa leaf s x) (log : List Entry) → log ≡ d.log
    → labelled log DataRoot ≡ None → labelled log DataSecond ≡ None → labelled log DataWord ≡ None → labelled log FromVector ≡ None → (slot : Slot) → zero_slots x slot
none_started t walk pa leaf s x d log same root second word vector =
    let zero : (l : Label) → labelled log l ≡ None → new_value t.known (labelled d.log l) ≡ 0 =
    λ l none. ap (λ (m : List Entry). new_value t.known (labelled m l)) (sym same) ∙ ap (λ (o : Option Entry). new_value t.known o) none in
    each_slot (zero_slots x) (record {
      op_slot = refl;
      rs1_slot = refl;
      rs2_slot = refl;
      imm_slot = refl;
      rd_slot = refl;
      csr_slot = refl;
      ea_slot = refl;
      a_slot = refl;
      b_slot = refl;
      first_slot = eq-eqb _ _ (d.first ∙ zero DataRoot root);
      second_slot = eq-eqb _ _ (d.second ∙ zero DataSecond second);
      data_slot = eq-eqb _ _ (d.data_word ∙ zero DataWord word);
      old_slot = refl;
      vector_slot = eq-eqb _ _ (d.vector ∙ zero FromVector vector);
    })

-- what a step without a new place but an old value says
pub record OldDone (t : Turn) (x : Values) (outcome : ℕ) (reaches : Bool) (old : Bool) : Type 0 where
  pub each : (s : Slot) → zero_slots x s
  pub old_is : old ≡ true
  pub outcome_is : 255 ≡ outcome
  pub reaches_is : false ≡ reaches

pub does_old : (t : Turn) (walk : List Entry) (pa : ℕ) (leaf : List Atom) (op : Op) (x : Values) (addr : ℕ) (outcome : ℕ) (reaches : Bool) (a : AsksOld t op x addr) → Retiring t x (a.next (old_entry t x addr).value) → DoesRest t walk pa leaf (shape_with op outcome reaches) x
    → OldDone t x outcome reaches (is_old t addr (x slots.OldCsr))
does_old t walk pa leaf op x addr outcome reaches a r d =
    let one : Entry = old_entry t x addr in
    let same = same_done (one ∷ []) d.log r.change d.change (sym (old_plays t op x addr a r) ∙ d.plays) in
    record {
      each = none_started t walk pa leaf (shape_with op outcome reaches) x d (one ∷ []) same.0 refl refl refl refl;
      old_is = old_from t (t.known (Csr addr)) addr (x slots.OldCsr) (d.may one (subst (λ (l : List Entry). HasItem l one) same.0 (inl refl)))
          (d.old ∙ ap (λ (l : List Entry). old_csr t.fixed (instr_in x) (labelled l FromCsr)) (sym same.0));
      outcome_is = sym r.outcome ∙ ap (λ (c : Change). outcome_in (outcome_of t.fixed c.control)) same.1 ∙ d.outcome;
      reaches_is = reach_none (all_tests t leaf vars.Pa) reaches (subst (λ (l : List Entry). IsReach (all_tests t leaf vars.Pa) reaches (data_address (accesses_in l))) (sym same.0) d.reach);
    }

-- the same where no question is asked
pub quiet_does : (t : Turn) (walk : List Entry) (pa : ℕ) (leaf : List Atom) (op : Op) (x : Values) → IsFetched t walk pa → Retiring t x (rest_of t op x (x slots.A) (x slots.B)) → ((s : Slot) → zero_slots x s) → x slots.OldCsr ≡ old_csr t.fixed (instr_in x) None
    → DoesRest t walk pa leaf (shape_with op 255 false) x
quiet_does t walk pa leaf op x f r z h = record {
  log = [];
  change = r.change;
  plays = ap (λ (s : Script Change). answer_told (by_answers t.known (given_by x)) s) r.ends;
  word = r.word;
  outcome = r.outcome;
  reach = tt;
  may = λ e i. absurd i;
  free = λ e i. absurd i;
  coherent = λ e g i. absurd i;
  one_role = λ e i. absurd i;
  apart = quiet_apart t walk pa (word_of (instr_in x)) [] f (λ e i. absurd i);
  first = eqb-true _ _ (z slots.FirstPte);
  second = eqb-true _ _ (z slots.SecondPte);
  data_word = eqb-true _ _ (z slots.DataWord);
  vector = eqb-true _ _ (z slots.Vector);
  old = h;
}

pub does_quiet : (t : Turn) (walk : List Entry) (pa : ℕ) (leaf : List Atom) (op : Op) (x : Values) (outcome : ℕ) (reaches : Bool) (v : ℕ) → old_csr t.fixed (instr_in x) None ≡ v → Retiring t x (rest_of t op x (x slots.A) (x slots.B)) → DoesRest t walk pa leaf (shape_with op outcome reaches) x
    → OldDone t x outcome reaches (eqb (x slots.OldCsr) v)
does_quiet t walk pa leaf op x outcome reaches v h r d =
    let same = same_done [] d.log r.change d.change (sym (ap (λ (s : Script Change). answer_told (by_answers t.known (given_by x)) s) r.ends) ∙ d.plays) in
    record {
      each = none_started t walk pa leaf (shape_with op outcome reaches) x d [] same.0 refl refl refl refl;
      old_is = eq-eqb _ _ (d.old ∙ ap (λ (l : List Entry). old_csr t.fixed (instr_in x) (labelled l FromCsr)) (sym same.0) ∙ h);
      outcome_is = sym r.outcome ∙ ap (λ (c : Change). outcome_in (outcome_of t.fixed c.control)) same.1 ∙ d.outcome;
      reaches_is = reach_none (all_tests t leaf vars.Pa) reaches (subst (λ (l : List Entry). IsReach (all_tests t leaf vars.Pa) reaches (data_address (accesses_in l))) (sym same.0) d.reach);
    }

-- RETURNS
pub return_is_ways : (t : Turn) (walk : List Entry) (pa : ℕ) (leaf : List Atom) (op : Op) (addr : ℕ) → IsFetched t walk pa → ((x : Values) → IsOf op x → AsksUsed t (shape_with op 255 false) x)
    → (asks : (x : Values) → IsOf op x → AsksOld t op x addr) → ((x : Values) (is : IsOf op x) → Retiring t x ((asks x is).next (old_entry t x addr).value)) → IsWays t walk pa leaf op (return_ways t addr)
return_is_ways t walk pa leaf op addr f all asks ends = record {
  does = λ x is ea way i w. let e : ends_when (λ y. is_old t addr (y slots.OldCsr)) ≡ way = in_one _ way i in
      let v : FitsWay (ends_when (λ y. is_old t addr (y slots.OldCsr))) x = subst (λ (z : Way). FitsWay z x) (sym e) w in
      subst (λ (z : Way). DoesRest t walk pa leaf (shape_with op z.outcome z.reaches) x) e (old_does t walk pa leaf op x addr f (asks x is) (ends x is) v.each v.holds);
  fits = λ x is ea outcome reaches d inside. let r = does_old t walk pa leaf op x addr outcome reaches (asks x is) (ends x is) d in
      record { way = ends_when (λ y. is_old t addr (y slots.OldCsr)); is = inl refl; fits = record { each = r.each; holds = r.old_is }; outcome_is = r.outcome_is; reaches_is = r.reaches_is };
  asks = λ x is way i w. let e : ends_when (λ y. is_old t addr (y slots.OldCsr)) ≡ way = in_one _ way i in
      subst (λ (z : Way). AsksUsed t (shape_with op z.outcome z.reaches) x) e (all x is);
}

pub mret_exact : (t : Turn) (walk : List Entry) (pa : ℕ) (leaf : List Atom) → IsFetched t walk pa → IsWays t walk pa leaf Mret (mret_ways t)
unfolding mret_row
mret_exact t walk pa leaf f = go (is_machine t.fixed.privilege) refl
  where
    go : (b : Bool) → is_machine t.fixed.privilege ≡ b → IsWays t walk pa leaf Mret (if b then return_ways t (lazy_address Mepc) else traps t Illegal)
    go true h = return_is_ways t walk pa leaf Mret (lazy_address Mepc) f (λ x is. record { first = refl; second = refl })
        (λ x is. record { next = λ v. Done (went (word_of (instr_in x)) None GoesM v); ends = if_yes (is_machine t.fixed.privilege) _ _ h })
        (λ x is. record { change = went (word_of (instr_in x)) None GoesM (old_entry t x (lazy_address Mepc)).value; ends = refl; word = refl; outcome = refl })
    go false h = traps_ways t walk pa leaf Mret Illegal f refl (λ x is. record { first = refl; second = refl }) (λ x is. record { value = word_of (instr_in x); ends = if_no (is_machine t.fixed.privilege) _ _ h })

pub sret_exact : (t : Turn) (walk : List Entry) (pa : ℕ) (leaf : List Atom) → IsFetched t walk pa → IsWays t walk pa leaf Sret (sret_ways t)
unfolding sret_row
sret_exact t walk pa leaf f = go (is_withheld Tsr t.fixed) refl
  where
    go : (b : Bool) → is_withheld Tsr t.fixed ≡ b → IsWays t walk pa leaf Sret (if b then traps t Illegal else return_ways t (lazy_address Sepc))
    go true h = traps_ways t walk pa leaf Sret Illegal f refl (λ x is. record { first = refl; second = refl }) (λ x is. record { value = word_of (instr_in x); ends = if_yes (is_withheld Tsr t.fixed) _ _ h })
    go false h = return_is_ways t walk pa leaf Sret (lazy_address Sepc) f (λ x is. record { first = refl; second = refl })
        (λ x is. record { next = λ v. Done (went (word_of (instr_in x)) None GoesS v); ends = if_no (is_withheld Tsr t.fixed) _ _ h })
        (λ x is. record { change = went (word_of (instr_in x)) None GoesS (old_entry t x (lazy_address Sepc)).value; ends = refl; word = refl; outcome = refl })

pub returns_are_exact : ReturnsAreExact
returns_are_exact t walk pa leaf p = (exact t walk pa leaf Mret (mret_ways t) p (mret_exact t walk pa leaf p.fetched), exact t walk pa leaf Sret (sret_ways t) p (sret_exact t walk pa leaf p.fetched))
