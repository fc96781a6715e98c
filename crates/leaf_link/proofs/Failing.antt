-- `fault` leaves.
use Rattle.std.proofs.Common.{◌≡◌, ℕ, ◌≤◌, ◌<◌, ◌⊎◌, Bool, List, Option, Some, None, refl, sym, ap, ◌∙◌, subst, inl, inr, arith}
use Rattle.rv_isa.specs.Reading.{decoded}
use Rattle.rv_script.specs.declared.place.Place.{Place}
use Rattle.rv_script.specs.Lists.{HasItem}
use Rattle.rv_script.specs.Script.{Label, Label.FetchRoot, Label.FetchSecond, Label.Fetched, Label.FromRs1, Label.FromRs2, Label.FromCsr, Label.DataRoot, Label.DataSecond, Label.DataWord, Label.FromVector, Question.OfMemory}
use Rattle.rv_script.specs.Folds.{Known, Teller, by_known, Answer, Answer.Does, Entry}
use Rattle.sv_walk.specs.Translation.{Reached, At, Fails}
use Rattle.rv_hart.specs.declared.record.Change.{Change}
use Rattle.rv_hart.specs.Machine.{arriving, at_address, fetched_at, instruction, script}
use Rattle.rv_hart.specs.Privileged.{trap}
use Rattle.fd_prob.specs.declared.slot.Slot.{Slot}
use Rattle.rv_script.specs.Labels.{label_number, question_number}
use Rattle.rv_script.specs.Logs.{entry_place, entry_label, answer_told, by_answers, enlarged, if_new, labelled, log_of, new_value, or_else, started}
use Rattle.leaf_link.specs.Turns.{Turn}
use Rattle.leaf_link.specs.Values.{Values, given_by, new_places}
use Rattle.leaf_link.specs.Fetches.{fetch_script}
use Rattle.leaf_link.specs.Faults.{FaultDoes, FaultsAreExact, IsFaultCandidate, fault_values}
use Rattle.rv_script.proofs.Plays.{first_asked, labelled_one, numbers_within, play_same, told}
use Rattle.rv_script.proofs.Items.{has_either}
use Rattle.rv_hart.proofs.Forms.{script_between, trap_between}
use Rattle.leaf_link.proofs.Front.{label_past}
use Rattle.leaf_link.proofs.Links.{answers_have, enlarged_has}
use Rattle.leaf_link.proofs.Reaching.{then_done}
use Rattle.leaf_link.proofs.Fetching.{fetch_between}

-- a fetch that is read from memory is in the log
pub reads : (t : Turn) (tell : Teller) (change : Change) (pa : ℕ) (second : List Entry) → answer_told tell (fetched_at t.fixed pa) ≡ Does second change → labelled second Fetched ≡ None → ⊥
unfolding fetched_at
reads t tell change pa second h n =
    let r = first_asked (OfMemory Fetched pa 4) (λ w. instruction t.fixed w (decoded w)) tell second change h in
    let z = ap (λ (l : List Entry). labelled l Fetched) (sym r.4) ∙ n in
    absurd (cc z)

-- where no word is fetched, what is asked is of the walk and the vector
pub fault_numbers : (t : Turn) (tell : Teller) (log : List Entry) (change : Change) → answer_told tell (script t.fixed) ≡ Does log change → labelled log Fetched ≡ None → (e : Entry) → HasItem log e → (question_number e.question < 2) ⊎ (9 ≤ question_number e.question)
unfolding script at_address
fault_numbers t tell log change plays none e i =
    let parts = then_done (fetch_script t) (arriving t.fixed 0 t.fixed.pc (fetched_at t.fixed)) tell log change plays in
    let early = λ (g : Entry) (j : HasItem parts.0 g). (numbers_within 0 2 (fetch_script t) tell parts.0 parts.1 (fetch_between t) parts.3 g j).1 in
    elim (has_either parts.0 parts.2 e (subst (λ (l : List Entry). HasItem l e) parts.5 i)) [
      | inl j ↦ inl (early e j)
      | inr j ↦ inr (go parts.1 parts.2 parts.4 (sym (label_past parts.0 parts.2 Fetched early) ∙ ap (λ (l : List Entry). labelled l Fetched) (sym parts.5) ∙ none) j)
    ]
  where
    go : (a : Reached) (second : List Entry) → answer_told tell (arriving t.fixed 0 t.fixed.pc (fetched_at t.fixed) a) ≡ Does second change → labelled second Fetched ≡ None → HasItem second e → 9 ≤ question_number e.question
    go (At pa) second h n j = absurd (reads t tell change pa second h n)
    go (Fails cause) second h n j = (numbers_within 9 10 (trap t.fixed 0 cause t.fixed.pc) tell second change (trap_between 9 t.fixed 0 cause t.fixed.pc (omega arith)) h e j).0

fault_of : (t : Turn) (causes : ℕ → Bool) (x : Values) → FaultDoes t causes x → IsFaultCandidate t causes (new_places t.fixed t.known x)
fault_of t causes x g =
    let exact : (q : Place) → new_places t.fixed t.known x q ≡ started t.known g.log q = λ q. ap (λ (r : Answer Entry Change). started t.known (log_of r) q) g.plays in
    record {
      log = g.log;
      change = g.change;
      plays = play_same (script t.fixed) (by_answers t.known (given_by x)) (by_known (enlarged t.known (new_places t.fixed t.known x))) g.log g.change g.plays
          (λ e i. enlarged_has t.known g.log (given_by x) (new_places t.fixed t.known x) exact g.agree e i (told (script t.fixed) (by_answers t.known (given_by x)) g.log g.change g.plays e i));
      exact = exact;
      meets = g.meets;
    }

pub given_fault : (t : Turn) (log : List Entry) (l : Label) (e : Entry) → labelled log l ≡ Some e → t.known (entry_place e) ≡ None → (label_number l < 2) ⊎ (9 ≤ label_number l) → given_by (fault_values t log) l ≡ e.value
given_fault t log FetchRoot e one h at = ap (λ (o : Option Entry). new_value t.known o) one ∙ ap (λ (o : Option ℕ). if_new o e.value) h
given_fault t log FetchSecond e one h at = ap (λ (o : Option Entry). new_value t.known o) one ∙ ap (λ (o : Option ℕ). if_new o e.value) h
given_fault t log FromVector e one h at = ap (λ (o : Option Entry). new_value t.known o) one ∙ ap (λ (o : Option ℕ). if_new o e.value) h
given_fault t log Fetched e one h at = absurd (elim at [ inl a ↦ omega (arith, a) | inr a ↦ omega (arith, a) ])
given_fault t log FromRs1 e one h at = absurd (elim at [ inl a ↦ omega (arith, a) | inr a ↦ omega (arith, a) ])
given_fault t log FromRs2 e one h at = absurd (elim at [ inl a ↦ omega (arith, a) | inr a ↦ omega (arith, a) ])
given_fault t log FromCsr e one h at = absurd (elim at [ inl a ↦ omega (arith, a) | inr a ↦ omega (arith, a) ])
given_fault t log DataRoot e one h at = absurd (elim at [ inl a ↦ omega (arith, a) | inr a ↦ omega (arith, a) ])
given_fault t log DataSecond e one h at = absurd (elim at [ inl a ↦ omega (arith, a) | inr a ↦ omega (arith, a) ])
given_fault t log DataWord e one h at = absurd (elim at [ inl a ↦ omega (arith, a) | inr a ↦ omega (arith, a) ])

fault_does : (t : Turn) (causes : ℕ → Bool) (new : Known) → (w : IsFaultCandidate t causes new) → FaultDoes t causes (fault_values t w.log)
fault_does t causes new w =
    let s = script t.fixed in
    let tell = by_known (enlarged t.known new) in
    let known = told s tell w.log w.change w.plays in
    record {
      log = w.log;
      change = w.change;
      plays = play_same s tell (by_answers t.known (given_by (fault_values t w.log))) w.log w.change w.plays
          (λ e i. answers_have t.known new (given_by (fault_values t w.log)) e (known e i) (λ h.
          given_fault t w.log (entry_label e) e (labelled_one 0 10 s tell w.log w.change (script_between t.fixed) w.plays e i) h (fault_numbers t tell w.log w.change w.plays w.meets.fails e i)));
      agree = λ e f i j h q.
          let a : enlarged t.known new (entry_place e) ≡ Some e.value = known e i in
          let b : enlarged t.known new (entry_place f) ≡ Some f.value = known f j in
          let d : enlarged t.known new (entry_place e) ≡ Some f.value = rw q b in
          cc;
      meets = w.meets;
      is = λ z. refl;
    }

fault_apart : (t : Turn) (causes : ℕ → Bool) (x y : Values) → FaultDoes t causes x → FaultDoes t causes y → ((q : Place) → new_places t.fixed t.known x q ≡ new_places t.fixed t.known y q) → (s : Slot) → x s ≡ y s
unfolding fault_of
fault_apart t causes x y g h same z =
    let s = script t.fixed in
    let k : Known = t.known in
    let a = fault_of t causes x g in
    let b = fault_of t causes y h in
    let one : answer_told (by_known (enlarged k (new_places t.fixed k y))) s ≡ Does g.log g.change =
    play_same s (by_known (enlarged k (new_places t.fixed k x))) (by_known (enlarged k (new_places t.fixed k y))) g.log g.change a.plays
    (λ e i. ap (λ (o : Option ℕ). or_else (k (entry_place e)) o) (sym (same (entry_place e))) ∙ told s (by_known (enlarged k (new_places t.fixed k x))) g.log g.change a.plays e i) in
    let logs : g.log ≡ h.log = let two = b.plays in cc in
    g.is z ∙ ap (λ (l : List Entry). fault_values t l z) logs ∙ sym (h.is z)

pub faults_are_exact : FaultsAreExact
unfolding fault_does fault_of
faults_are_exact t causes = record {
  into = λ x f. fault_of t causes x f;
  apart = λ x y f h. fault_apart t causes x y f h;
  are_values = λ x f s. f.is s;
  onto = λ new w. (fault_values t w.log, fault_does t causes new w, λ q. (fault_of t causes (fault_values t w.log) (fault_does t causes new w)).exact q ∙ sym (w.exact q), λ s. refl);
}
