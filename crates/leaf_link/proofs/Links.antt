-- Good values stand one to one for the candidates, for every operation at once.
use Rattle.std.proofs.Common.{◌≡◌, ℕ, ◌≤◌, List, Option, Some, None, refl, sym, ap, ◌∙◌, subst, arith}
use Rattle.rv_isa.specs.declared.instruction.Instr.{Instr}
use Rattle.rv_isa.specs.Encoding.{word_of}
use Rattle.rv_isa.specs.Reading.{decoded}
use Rattle.rv_isa.proofs.Codec.{encoded_read}
use Rattle.rv_isa.proofs.Cuts.{same_instr}
use Rattle.rv_script.specs.declared.place.Place.{Place}
use Rattle.rv_script.specs.Lists.{HasItem}
use Rattle.rv_script.specs.Script.{Label, Label.FetchRoot, Label.FetchSecond, Label.Fetched, Label.FromRs1, Label.FromRs2, Label.FromCsr, Label.DataRoot, Label.DataSecond, Label.DataWord, Label.FromVector}
use Rattle.rv_script.specs.Folds.{Known, by_known, Answer, Answer.Does, Entry}
use Rattle.rv_hart.specs.declared.record.Change.{Change}
use Rattle.rv_hart.specs.Fixed.{Fixed}
use Rattle.rv_hart.specs.Machine.{script}
use Rattle.tpl_ast.specs.declared.template.Atom.{Atom}
use Rattle.fd_prob.specs.declared.slot.Slot.{Slot}
use Rattle.rv_script.specs.Labels.{label_number, question_number, Between}
use Rattle.rv_script.specs.Logs.{entry_place, entry_label, answer_told, log_of, found, labelled, or_else, enlarged, where_unknown, started, or_given, by_answers, if_new, new_value, value_in}
use Rattle.leaf_link.specs.Turns.{Turn}
use Rattle.leaf_link.specs.Values.{Values, instr_in, assigned, old_csr, given_by, new_places}
use Rattle.leaf_link.specs.Candidates.{Meets, IsStep, IsCandidate}
use Rattle.leaf_link.specs.Laws.{OneToOne}
use Rattle.leaf_link.proofs.Numbers.{op_back}
use Rattle.rv_script.proofs.Plays.{told, play_same, found_one, labelled_one}

-- values whose answers make a step that is wanted
pub record Good (t : Turn) (leaf : List Atom) (x : Values) : Type 0 where
  pub log : List Entry
  pub change : Change
  pub plays : answer_told (by_answers t.known (given_by x)) (script t.fixed) ≡ Does log change
  pub agree : (e f : Entry) → HasItem log e → HasItem log f → t.known (entry_place e) ≡ None → entry_place e ≡ entry_place f → e.value ≡ f.value
  pub meets : Meets t leaf (instr_in x) log change
  pub is : (s : Slot) → x s ≡ assigned t.fixed t.known (instr_in x) log s

-- FROM VALUES TO A CANDIDATE
pub enlarged_has : (k : Known) (log : List Entry) (given : Label → ℕ) (new : Known) → ((q : Place) → new q ≡ started k log q)
    → ((e f : Entry) → HasItem log e → HasItem log f → k (entry_place e) ≡ None → entry_place e ≡ entry_place f → e.value ≡ f.value)
    → (e : Entry) → HasItem log e → by_answers k given e.question ≡ Some e.value → enlarged k new (entry_place e) ≡ Some e.value
enlarged_has k log given new exact agree e i t = go (k (entry_place e)) refl t
  where
    go : (o : Option ℕ) → k (entry_place e) ≡ o → or_given o (given (entry_label e)) ≡ Some e.value → or_else o (new (entry_place e)) ≡ Some e.value
    go (Some v) h t = t
    go None h t =
        let f = found_one log e i in
        let same : e.value ≡ f.0.value = agree e f.0 i f.1 h (sym f.2) in
        exact (entry_place e) ∙ ap (λ (o : Option ℕ). where_unknown o (found log (entry_place e))) h ∙ f.3 ∙ ap (λ (v : ℕ). Some v) (sym same)

pub good_step : (t : Turn) (leaf : List Atom) (x : Values) → (g : Good t leaf x) → IsStep t leaf (new_places t.fixed t.known x) (instr_in x) g.log g.change
good_step t leaf x g =
    let exact : (q : Place) → new_places t.fixed t.known x q ≡ started t.known g.log q = λ q. ap (λ (r : Answer Entry Change). started t.known (log_of r) q) g.plays in
    record {
      plays = play_same (script t.fixed) (by_answers t.known (given_by x)) (by_known (enlarged t.known (new_places t.fixed t.known x))) g.log g.change g.plays
          (λ e i. enlarged_has t.known g.log (given_by x) (new_places t.fixed t.known x) exact g.agree e i (told (script t.fixed) (by_answers t.known (given_by x)) g.log g.change g.plays e i));
      exact = exact;
      meets = g.meets;
    }

-- FROM A CANDIDATE TO VALUES
pub instr_assigned : (f : Fixed) (k : Known) (log : List Entry) (i : Instr) → instr_in (assigned f k i log) ≡ i
instr_assigned f k log i = same_instr (instr_in (assigned f k i log)) i (op_back i.op) refl refl refl refl refl

-- the answer of the values to a question whose place was not known is the log's
pub given_value : (f : Fixed) (k : Known) (i : Instr) (log : List Entry) (l : Label) (e : Entry) → labelled log l ≡ Some e → k (entry_place e) ≡ None
    → 2 ≤ label_number l → (l ≡ Fetched → decoded e.value ≡ Some i) → given_by (assigned f k i log) l ≡ e.value
given_value f k i log FetchRoot e one h late reads = absurd (omega (arith, late))
given_value f k i log FetchSecond e one h late reads = absurd (omega (arith, late))
given_value f k i log Fetched e one h late reads = ap (λ (j : Instr). word_of j) (instr_assigned f k log i) ∙ sym (encoded_read e.value i (reads refl)).word
given_value f k i log FromRs1 e one h late reads = ap (λ (o : Option Entry). value_in o) one
given_value f k i log FromRs2 e one h late reads = ap (λ (o : Option Entry). value_in o) one
given_value f k i log FromCsr e one h late reads = ap (λ (o : Option Entry). old_csr f i o) one
given_value f k i log DataRoot e one h late reads = ap (λ (o : Option Entry). new_value k o) one ∙ ap (λ (o : Option ℕ). if_new o e.value) h
given_value f k i log DataSecond e one h late reads = ap (λ (o : Option Entry). new_value k o) one ∙ ap (λ (o : Option ℕ). if_new o e.value) h
given_value f k i log DataWord e one h late reads = ap (λ (o : Option Entry). new_value k o) one ∙ ap (λ (o : Option ℕ). if_new o e.value) h
given_value f k i log FromVector e one h late reads = ap (λ (o : Option Entry). new_value k o) one ∙ ap (λ (o : Option ℕ). if_new o e.value) h

pub answers_have : (k : Known) (new : Known) (given : Label → ℕ) (e : Entry) → enlarged k new (entry_place e) ≡ Some e.value → (k (entry_place e) ≡ None → given (entry_label e) ≡ e.value) → by_answers k given e.question ≡ Some e.value
answers_have k new given e t h = go (k (entry_place e)) refl t
  where
    go : (o : Option ℕ) → k (entry_place e) ≡ o → or_else o (new (entry_place e)) ≡ Some e.value → or_given o (given (entry_label e)) ≡ Some e.value
    go (Some v) g t = t
    go None g t = ap (λ (v : ℕ). Some v) (h g)

-- what the machine owes: its questions come in order, and no place is new in the translation of the fetch
pub record IsSettled (t : Turn) : Type 0 where
  pub ascends : Between 0 10 (script t.fixed)
  pub walked : (new : Known) (log : List Entry) (change : Change) → answer_told (by_known (enlarged t.known new)) (script t.fixed) ≡ Does log change → (e : Entry) → HasItem log e → t.known (entry_place e) ≡ None → 2 ≤ question_number e.question

unfoldable pub candidate_good : (t : Turn) (leaf : List Atom) (new : Known) → (w : IsCandidate t leaf new) → IsSettled t → Good t leaf (assigned t.fixed t.known w.instr w.log)
candidate_good t leaf new w settled =
    let s = script t.fixed in
    let i : Instr = w.instr in
    let x : Values = assigned t.fixed t.known i w.log in
    let known = told s (by_known (enlarged t.known new)) w.log w.change w.is.plays in
    let same : instr_in x ≡ i = instr_assigned t.fixed t.known w.log i in
    let fetched = w.is.meets.fetched in
    let one = labelled_one 0 10 s (by_known (enlarged t.known new)) w.log w.change settled.ascends w.is.plays in
    let reads : (e : Entry) → HasItem w.log e → entry_label e ≡ Fetched → decoded e.value ≡ Some i = λ e j l.
    let a : labelled w.log Fetched ≡ Some e = subst (λ (z : Label). labelled w.log z ≡ Some e) l (one e j) in
    let b : labelled w.log Fetched ≡ Some fetched.0 = fetched.1 in
    let z : Some e ≡ Some fetched.0 = sym a ∙ b in
    let y : e ≡ fetched.0 = cc in
    ap (λ (y : Entry). decoded y.value) y ∙ fetched.2 in
    record {
      log = w.log;
      change = w.change;
      plays = play_same s (by_known (enlarged t.known new)) (by_answers t.known (given_by x)) w.log w.change w.is.plays
          (λ e j. answers_have t.known new (given_by x) e (known e j) (λ h.
          given_value t.fixed t.known i w.log (entry_label e) e (one e j) h (settled.walked new w.log w.change w.is.plays e j h) (reads e j)));
      agree = λ e f j k h q.
          let a : enlarged t.known new (entry_place e) ≡ Some e.value = known e j in
          let b : enlarged t.known new (entry_place f) ≡ Some f.value = known f k in
          let d : enlarged t.known new (entry_place e) ≡ Some f.value = rw q b in
          cc;
      meets = subst (λ (j : Instr). Meets t leaf j w.log w.change) (sym same) w.is.meets;
      is = λ z. ap (λ (j : Instr). assigned t.fixed t.known j w.log z) (sym same);
    }

-- ONE TO ONE
good_apart : (t : Turn) (leaf : List Atom) (x y : Values) → Good t leaf x → Good t leaf y
    → ((q : Place) → new_places t.fixed t.known x q ≡ new_places t.fixed t.known y q) → (s : Slot) → x s ≡ y s
good_apart t leaf x y g h same z =
    let s = script t.fixed in
    let k : Known = t.known in
    let nx : Known = new_places t.fixed k x in
    let ny : Known = new_places t.fixed k y in
    let a = good_step t leaf x g in
    let b = good_step t leaf y h in
    let one : answer_told (by_known (enlarged k ny)) s ≡ Does g.log g.change =
    play_same s (by_known (enlarged k nx)) (by_known (enlarged k ny)) g.log g.change a.plays
    (λ e i. ap (λ (o : Option ℕ). or_else (k (entry_place e)) o) (sym (same (entry_place e))) ∙ told s (by_known (enlarged k nx)) g.log g.change a.plays e i) in
    let logs : g.log ≡ h.log = let two = b.plays in cc in
    let p = g.meets.fetched in
    let q = h.meets.fetched in
    let first : labelled h.log Fetched ≡ Some p.0 = subst (λ (l : List Entry). labelled l Fetched ≡ Some p.0) logs p.1 in
    let other : labelled h.log Fetched ≡ Some q.0 = q.1 in
    let entries : p.0 ≡ q.0 = cc in
    let i : decoded p.0.value ≡ Some (instr_in x) = p.2 in
    let j : decoded q.0.value ≡ Some (instr_in y) = q.2 in
    let k' : decoded p.0.value ≡ Some (instr_in y) = ap (λ (e : Entry). decoded e.value) entries ∙ j in
    let instrs : instr_in x ≡ instr_in y = cc in
    g.is z ∙ ap (λ (i : Instr). assigned t.fixed k i g.log z) instrs ∙ ap (λ (l : List Entry). assigned t.fixed k (instr_in y) l z) logs ∙ sym (h.is z)

-- a law from what fits being what is good, and of some kind
pub law_from : (t : Turn) (leaf : List Atom) (Fitting : Values → Type 0) (Kind : Instr → Type 0) → IsSettled t
    → ((x : Values) → Fitting x → Good t leaf x × Kind (instr_in x)) → ((x : Values) → Good t leaf x → Kind (instr_in x) → Fitting x)
    → OneToOne Fitting (λ new. (w : IsCandidate t leaf new) × Kind w.instr) (new_places t.fixed t.known) (λ new w. assigned t.fixed t.known w.0.instr w.0.log)
unfolding candidate_good
law_from t leaf Fitting Kind settled good fits = record {
  into = λ x f. let g = (good x f).0 in (record { instr = instr_in x; log = g.log; change = g.change; is = good_step t leaf x g }, (good x f).1);
  apart = λ x y f h. good_apart t leaf x y (good x f).0 (good y h).0;
  are_values = λ x f s. (good x f).0.is s;
  onto = λ new w.
      let x : Values = assigned t.fixed t.known w.0.instr w.0.log in
      let g = candidate_good t leaf new w.0 settled in
      (x, fits x g (subst Kind (sym (instr_assigned t.fixed t.known w.0.log w.0.instr)) w.1), λ q. (good_step t leaf x g).exact q ∙ sym (w.0.is.exact q), λ s. refl);
}
