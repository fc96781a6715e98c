-- The problem of a `fault` leaf from its rows.
use Rattle.std.proofs.Common.{◌≡◌, ℕ, ◌<◌, Bool, true, false, eqb, List, [], ◌∷◌, ◌++◌, Option, None, refl, sym, ap, ◌∙◌, subst, inl, inr, arith}
use Rattle.std.specs.List.{list_all}
use Rattle.std.proofs.lemmas.Bool.{cases_Bool, and_parts, and_from, eqb-true}
use Rattle.rv_csr.specs.declared.cause.Cause.{Cause}
use Rattle.rv_csr.specs.Causes.{number_of}
use Rattle.rv_script.specs.declared.place.Place.TheVariants.{Csr}
use Rattle.rv_script.specs.Lists.{HasItem}
use Rattle.rv_script.specs.Script.{Label, Label.FetchRoot, Label.FetchSecond, Label.Fetched, Label.FromRs1, Label.FromRs2, Label.FromCsr, Label.DataRoot, Label.DataSecond, Label.DataWord, Label.FromVector, Question.OfCsr, Script.Done}
use Rattle.rv_script.specs.Folds.{Known, Teller, Answer, Answer.Does, Entry, prefixed}
use Rattle.sv_walk.specs.declared.entry.Kind.TheVariants.{Fetch as ForFetch}
use Rattle.sv_walk.specs.Translation.{Reached, At, Fails}
use Rattle.rv_hart.specs.declared.record.Change.{Change}
use Rattle.rv_hart.specs.Changes.{outcome_of}
use Rattle.rv_hart.specs.Machine.{arriving, at_address, fetch_view, fetched_at, script}
use Rattle.rv_hart.specs.Privileged.{trap, went}
use Rattle.tpl_admit.specs.Variables.{outcome_in}
use Rattle.fd_prob.specs.declared.slot.Slot.TheVariants as slots
use Rattle.rv_script.specs.Labels.{label_number}
use Rattle.rv_script.specs.Logs.{Coherent, answer_told, by_answers, entry_label, entry_place, is_word, labelled, log_of, new_value, or_given}
use Rattle.leaf_link.specs.Turns.{Turn, is_free_entry, may_start}
use Rattle.leaf_link.specs.Values.{Values, given_by, instr_in}
use Rattle.leaf_link.specs.Cases.{Case, Fits, FitsCase, case_if}
use Rattle.leaf_link.specs.Kinds.{vector_at}
use Rattle.leaf_link.specs.Fetches.{fetch_script}
use Rattle.leaf_link.specs.FetchRows.{AreFetchRows, FetchRow, FetchWalks, entry_values, fetch_log}
use Rattle.leaf_link.specs.Faults.{FaultDoes, fault_values}
use Rattle.leaf_link.specs.FaultRows.{FaultProblemsAreExact, fault_case, fault_case_to, fault_cases, fault_domain}
use Rattle.rv_script.proofs.Plays.{asks, goes_on, numbers_within, play_same, told}
use Rattle.rv_script.proofs.Items.{has_either, has_first, has_second}
use Rattle.leaf_link.proofs.Front.{all_hold, hold_all, label_past, same_done}
use Rattle.leaf_link.proofs.Both.{each_slot}
use Rattle.leaf_link.proofs.Reaching.{coherent_behind, label_before, then_done}
use Rattle.leaf_link.proofs.Resting.{in_one, vector_entry, vector_from, vector_to}
use Rattle.sv_walk.proofs.Plain.{plain_words, translated_plain}
use Rattle.leaf_link.proofs.Fetching.{fetch_between}
use Rattle.leaf_link.proofs.Failing.{faults_are_exact, reads}

same_label : (x y : Values) (l : Label) → x slots.FirstPte ≡ y slots.FirstPte → x slots.SecondPte ≡ y slots.SecondPte → label_number l < 2 → given_by x l ≡ given_by y l
same_label x y FetchRoot a b less = a
same_label x y FetchSecond a b less = b
same_label x y Fetched a b less = absurd (omega (arith, less))
same_label x y FromRs1 a b less = absurd (omega (arith, less))
same_label x y FromRs2 a b less = absurd (omega (arith, less))
same_label x y FromCsr a b less = absurd (omega (arith, less))
same_label x y DataRoot a b less = absurd (omega (arith, less))
same_label x y DataSecond a b less = absurd (omega (arith, less))
same_label x y DataWord a b less = absurd (omega (arith, less))
same_label x y FromVector a b less = absurd (omega (arith, less))

fetch_same : (t : Turn) (x y : Values) (log : List Entry) (end : Reached) → x slots.FirstPte ≡ y slots.FirstPte → x slots.SecondPte ≡ y slots.SecondPte
    → answer_told (by_answers t.known (given_by x)) (fetch_script t) ≡ Does log end → answer_told (by_answers t.known (given_by y)) (fetch_script t) ≡ Does log end
fetch_same t x y log end a b plays =
    play_same (fetch_script t) (by_answers t.known (given_by x)) (by_answers t.known (given_by y)) log end plays
    (λ e i. ap (λ (n : ℕ). or_given (t.known (entry_place e)) n) (sym (same_label x y (entry_label e) a b (numbers_within 0 2 (fetch_script t) (by_answers t.known (given_by x)) log end (fetch_between t) plays e i).1))
    ∙ told (fetch_script t) (by_answers t.known (given_by x)) log end plays e i)

abbrev fault_change : Turn → Values → Cause → Change
fault_change t x cause = went 0 None (Rattle.rv_hart.specs.declared.record.Control.TheVariants.Trap (number_of cause) t.fixed.pc) (vector_entry t x cause).value

trap_plays : (t : Turn) (x : Values) (cause : Cause) → answer_told (by_answers t.known (given_by x)) (trap t.fixed 0 cause t.fixed.pc) ≡ Does (vector_entry t x cause ∷ []) (fault_change t x cause)
unfolding trap
trap_plays t x cause = asks t.known (given_by x) (OfCsr FromVector (vector_at t.fixed cause)) (λ v. Done (went 0 None (Rattle.rv_hart.specs.declared.record.Control.TheVariants.Trap (number_of cause) t.fixed.pc) v))

whole_plays : (t : Turn) (x : Values) (log : List Entry) (cause : Cause) → answer_told (by_answers t.known (given_by x)) (fetch_script t) ≡ Does log (Fails cause)
    → answer_told (by_answers t.known (given_by x)) (script t.fixed) ≡ Does (log ++ vector_entry t x cause ∷ []) (fault_change t x cause)
unfolding script at_address
whole_plays t x log cause h =
    goes_on (fetch_script t) (arriving t.fixed 0 t.fixed.pc (fetched_at t.fixed)) (by_answers t.known (given_by x)) log (Fails cause) h
    ∙ ap (λ (r : Answer Entry Change). prefixed log r) (trap_plays t x cause)

-- FROM WHAT FITS
case_does : (t : Turn) (causes : ℕ → Bool) (row : FetchRow) (cause : Cause) (x : Values) (log : List Entry) → causes (number_of cause) ≡ true → FetchWalks t (x slots.FirstPte) (x slots.SecondPte) log (Fails cause) → FitsCase (fault_case t row cause) x → FaultDoes t causes x
case_does t causes row cause x log listed w c =
    let k : Known = t.known in
    let tell : Teller = by_answers k (given_by x) in
    let plays : answer_told tell (fetch_script t) ≡ Does log (Fails cause) = fetch_same t (entry_values (x slots.FirstPte) (x slots.SecondPte)) x log (Fails cause) refl refl w.plays in
    let early = λ (g : Entry) (i : HasItem log g). (numbers_within 0 2 (fetch_script t) tell log (Fails cause) (fetch_between t) plays g i).1 in
    let h = and_parts (row.holds (x slots.FirstPte) (x slots.SecondPte)) (list_all (is_free_entry t) (fetch_log t x)) c.holds in
    let free : list_all (is_free_entry t) log ≡ true = ap (λ (r : Answer Entry Reached). list_all (is_free_entry t) (log_of r)) (sym plays) ∙ h.1 in
    let e : Entry = vector_entry t x cause in
    let v = vector_to t (k (Csr (vector_at t.fixed cause))) (x slots.Vector) (c.each slots.Vector) in
    let co : Coherent k (log ++ e ∷ []) = coherent_behind k log e w.coherent (λ g i none q. let z : is_word (entry_place g) ≡ false = ap is_word q in let y = plain_words (fetch_script t) tell log (Fails cause) (translated_plain t.fixed.ram (fetch_view t.fixed) ForFetch t.fixed.pc) plays g i in cc) in
    record {
      log = log ++ e ∷ [];
      change = fault_change t x cause;
      plays = whole_plays t x log cause plays;
      agree = λ g j i l none q. (co g j i l none q).1;
      meets = record {
        fails = label_past log (e ∷ []) Fetched early;
        cause = listed;
        may = λ i g j none. elim (has_either log (e ∷ []) g j) [
          | inl l ↦ w.may i g l none
          | inr l ↦ let same : e ≡ g = in_one e g l in
              subst (λ (z : Entry). may_start t i (entry_label z) (entry_place z) z.value ≡ true) same (v.0 (ap (λ (z : Entry). k (entry_place z)) same ∙ none))
        ];
        once = λ g j i l none q is. (co g j i l none q).0 is;
        free = λ g i. elim (has_either log (e ∷ []) g i) [
          | inl j ↦ all_hold (is_free_entry t) log free g j
          | inr j ↦ subst (λ (z : Entry). is_free_entry t z ≡ true) (in_one e g j) refl
        ];
      };
      is = each_slot (λ s. x s ≡ fault_values t (log ++ e ∷ []) s) (record {
        op_slot = eqb-true _ _ (c.each slots.Op);
        rs1_slot = eqb-true _ _ (c.each slots.Rs1);
        rs2_slot = eqb-true _ _ (c.each slots.Rs2);
        imm_slot = eqb-true _ _ (c.each slots.Imm);
        rd_slot = eqb-true _ _ (c.each slots.Rd);
        csr_slot = eqb-true _ _ (c.each slots.Csr);
        ea_slot = eqb-true _ _ (c.each slots.Ea);
        a_slot = eqb-true _ _ (c.each slots.A);
        b_slot = eqb-true _ _ (c.each slots.B);
        first_slot = w.first_is ∙ ap (λ (o : Option Entry). new_value k o) (sym (label_before log e FetchRoot refl));
        second_slot = w.second_is ∙ ap (λ (o : Option Entry). new_value k o) (sym (label_before log e FetchSecond refl));
        data_slot = eqb-true _ _ (c.each slots.DataWord);
        old_slot = eqb-true _ _ (c.each slots.OldCsr);
        vector_slot = v.1 ∙ ap (λ (o : Option Entry). new_value k o) (sym (label_past log (e ∷ []) FromVector (λ g i. let n = early g i in omega (arith, n))));
      });
    }

fits_does : (t : Turn) (causes : ℕ → Bool) (all rows : List FetchRow) → AreFetchRows t all → ((r : FetchRow) → HasItem rows r → HasItem all r) → (x : Values) → Fits (fault_cases t causes rows) x → FaultDoes t causes x
fits_does t causes all [] are inside x f = absurd f
fits_does t causes all (row ∷ rows) are inside x f = go row.end refl f (fits_does t causes all rows are (λ r i. inside r (inr i)) x)
  where
    go : (end : Reached) → row.end ≡ end → Fits (fault_case_to t causes row end (fault_cases t causes rows)) x → (Fits (fault_cases t causes rows) x → FaultDoes t causes x) → FaultDoes t causes x
    go (At pa) e f more = more f
    go (Fails cause) e f more = elim (cases_Bool (causes (number_of cause))) [
      | inl listed ↦ elim (subst (λ (b : Bool). Fits (case_if b (fault_case t row cause) (fault_cases t causes rows)) x) listed f) [
        | inl c ↦
            let h = and_parts (row.holds (x slots.FirstPte) (x slots.SecondPte)) (list_all (is_free_entry t) (fetch_log t x)) c.holds in
            let w = are.sound row (inside row (inl refl)) (x slots.FirstPte) (x slots.SecondPte) h.0 in
            case_does t causes row cause x w.0 listed (subst (λ (end : Reached). FetchWalks t (x slots.FirstPte) (x slots.SecondPte) w.0 end) e w.1) c
        | inr r ↦ more r
      ]
      | inr other ↦ more (subst (λ (b : Bool). Fits (case_if b (fault_case t row cause) (fault_cases t causes rows)) x) other f)
    ]

-- TO WHAT FITS
row_fits : (t : Turn) (causes : ℕ → Bool) (rows : List FetchRow) (x : Values) (row : FetchRow) (cause : Cause) → HasItem rows row → row.end ≡ Fails cause → causes (number_of cause) ≡ true → FitsCase (fault_case t row cause) x → Fits (fault_cases t causes rows) x
row_fits t causes [] x row cause i e listed f = absurd i
row_fits t causes (r ∷ rows) x row cause i e listed f = elim i [
  | inl q ↦ subst (λ (end : Reached). Fits (fault_case_to t causes r end (fault_cases t causes rows)) x) (sym (ap (λ (z : FetchRow). z.end) q ∙ e))
      (subst (λ (b : Bool). Fits (case_if b (fault_case t r cause) (fault_cases t causes rows)) x) (sym listed) (inl (subst (λ (z : FetchRow). FitsCase (fault_case t z cause) x) (sym q) f)))
  | inr j ↦ later r.end (row_fits t causes rows x row cause j e listed f)
]
  where
    behind : (b : Bool) (c : Case) → Fits (fault_cases t causes rows) x → Fits (case_if b c (fault_cases t causes rows)) x
    behind true c h = inr h
    behind false c h = h

    later : (end : Reached) → Fits (fault_cases t causes rows) x → Fits (fault_case_to t causes r end (fault_cases t causes rows)) x
    later (At p) h = h
    later (Fails c) h = behind (causes (number_of c)) (fault_case t r c) h

does_fits : (t : Turn) (causes : ℕ → Bool) (rows : List FetchRow) → AreFetchRows t rows → (x : Values) → FaultDoes t causes x → Fits (fault_cases t causes rows) x
unfolding script at_address
does_fits t causes rows are x g =
    let parts = then_done (fetch_script t) (arriving t.fixed 0 t.fixed.pc (fetched_at t.fixed)) (by_answers t.known (given_by x)) g.log g.change g.plays in
    go parts.0 parts.1 parts.2 parts.3 parts.4 parts.5
  where
    zero : (n : ℕ) → n ≡ 0 → eqb n 0 ≡ true
    zero n e = ap (λ (m : ℕ). eqb m 0) e

    go : (log : List Entry) (a : Reached) (second : List Entry) → answer_told (by_answers t.known (given_by x)) (fetch_script t) ≡ Does log a
        → answer_told (by_answers t.known (given_by x)) (arriving t.fixed 0 t.fixed.pc (fetched_at t.fixed) a) ≡ Does second g.change → g.log ≡ log ++ second → Fits (fault_cases t causes rows) x
    go log (At pa) second plays then split =
        let early = λ (e : Entry) (i : HasItem log e). (numbers_within 0 2 (fetch_script t) (by_answers t.known (given_by x)) log (At pa) (fetch_between t) plays e i).1 in
        absurd (reads t (by_answers t.known (given_by x)) g.change pa second then (sym (label_past log second Fetched early) ∙ ap (λ (l : List Entry). labelled l Fetched) (sym split) ∙ g.meets.fails))
    go log (Fails cause) second plays then split =
        let k : Known = t.known in
        let e : Entry = vector_entry t x cause in
        let same = same_done second (e ∷ []) g.change (fault_change t x cause) (sym then ∙ trap_plays t x cause) in
        let whole : g.log ≡ log ++ e ∷ [] = split ∙ ap (λ (l : List Entry). log ++ l) same.0 in
        let early = λ (d : Entry) (i : HasItem log d). (numbers_within 0 2 (fetch_script t) (by_answers t.known (given_by x)) log (Fails cause) (fetch_between t) plays d i).1 in
        let inside : (d : Entry) → HasItem log d → HasItem g.log d = λ d i. subst (λ (l : List Entry). HasItem l d) (sym whole) (has_first log (e ∷ []) d i) in
        let own : HasItem g.log e = subst (λ (l : List Entry). HasItem l e) (sym whole) (has_second log (e ∷ []) e (inl refl)) in
        let listed : causes (number_of cause) ≡ true = ap (λ (c : Change). causes (outcome_in (outcome_of t.fixed c.control))) (sym same.1) ∙ g.meets.cause in
        let walks : FetchWalks t (x slots.FirstPte) (x slots.SecondPte) log (Fails cause) = record {
          plays = fetch_same t x (entry_values (x slots.FirstPte) (x slots.SecondPte)) log (Fails cause) refl refl plays;
          may = λ i d j none. g.meets.may i d (inside d j) none;
          coherent = λ c d i j none q. (λ is. g.meets.once c d (inside c i) (inside d j) none q is, g.agree c d (inside c i) (inside d j) none q);
          first_is = g.is slots.FirstPte ∙ ap (λ (l : List Entry). new_value k (labelled l FetchRoot)) whole ∙ ap (λ (o : Option Entry). new_value k o) (label_before log e FetchRoot refl);
          second_is = g.is slots.SecondPte ∙ ap (λ (l : List Entry). new_value k (labelled l FetchSecond)) whole ∙ ap (λ (o : Option Entry). new_value k o) (label_before log e FetchSecond refl);
        } in
        let r = are.complete (x slots.FirstPte) (x slots.SecondPte) log (Fails cause) walks in
        let free : list_all (is_free_entry t) (fetch_log t x) ≡ true = ap (λ (a : Answer Entry Reached). list_all (is_free_entry t) (log_of a)) plays ∙ hold_all (is_free_entry t) log (λ d i. g.meets.free d (inside d i)) in
        row_fits t causes rows x r.0 cause r.1 r.3 listed (record {
          op = g.is slots.Op;
          each = each_slot (λ s. fault_domain t cause s (x s) ≡ true) (record {
            op_slot = zero _ (g.is slots.Op);
            rs1_slot = zero _ (g.is slots.Rs1);
            rs2_slot = zero _ (g.is slots.Rs2);
            imm_slot = zero _ (g.is slots.Imm);
            rd_slot = zero _ (g.is slots.Rd);
            csr_slot = zero _ (g.is slots.Csr);
            ea_slot = zero _ (g.is slots.Ea);
            a_slot = zero _ (g.is slots.A);
            b_slot = zero _ (g.is slots.B);
            first_slot = refl;
            second_slot = refl;
            data_slot = zero _ (g.is slots.DataWord);
            old_slot = zero _ (g.is slots.OldCsr);
            vector_slot = vector_from t (k (Csr (vector_at t.fixed cause))) (x slots.Vector) (λ none. g.meets.may (instr_in x) e own none)
                (g.is slots.Vector ∙ ap (λ (l : List Entry). new_value k (labelled l FromVector)) whole ∙ ap (λ (o : Option Entry). new_value k o) (label_past log (e ∷ []) FromVector (λ d i. let n = early d i in omega (arith, n))));
          });
          holds = and_from _ _ r.2 free;
        })

pub fault_problems_are_exact : FaultProblemsAreExact
fault_problems_are_exact t causes rows are =
    let law = faults_are_exact t causes in
    let does = λ (x : Values) (f : Fits (fault_cases t causes rows) x). fits_does t causes rows rows are (λ r i. i) x f in
    record {
      into = λ x f. law.into x (does x f);
      apart = λ x y f g. law.apart x y (does x f) (does y g);
      are_values = λ x f. law.are_values x (does x f);
      onto = λ new w. let o = law.onto new w in (o.0, does_fits t causes rows are o.0 o.1, o.2, o.3);
    }
