-- The fetch of a `do` leaf.
use Rattle.std.proofs.Common.{◌≡◌, ℕ, ◌<◌, List, Option, Some, None, refl, sym, ap, ◌∙◌, arith}
use Rattle.rv_script.specs.declared.place.Place.{Place}
use Rattle.rv_script.specs.Script.{Label, Label.FetchRoot, Label.FetchSecond, Label.Fetched, Label.FromRs1, Label.FromRs2, Label.FromCsr, Label.DataRoot, Label.DataSecond, Label.DataWord, Label.FromVector}
use Rattle.rv_script.specs.Folds.{Known, by_known, Answer, Answer.Does, Entry}
use Rattle.sv_walk.specs.declared.entry.Kind.TheVariants.{Fetch as ForFetch}
use Rattle.sv_walk.specs.Translation.{Reached, At}
use Rattle.rv_hart.specs.Machine.{fetch_view}
use Rattle.fd_prob.specs.declared.slot.Slot.{Slot}
use Rattle.rv_script.specs.Labels.{label_number, Between}
use Rattle.rv_script.specs.Logs.{entry_place, entry_label, answer_told, by_answers, enlarged, if_new, labelled, log_of, new_value, or_else, started}
use Rattle.leaf_link.specs.Turns.{Turn}
use Rattle.leaf_link.specs.Values.{Values, given_by}
use Rattle.leaf_link.specs.Fetches.{FetchDoes, FetchesAreExact, IsFetchCandidate, fetch_places, fetch_script, fetch_values}
use Rattle.rv_script.proofs.Plays.{labelled_one, numbers_within, play_same, told}
use Rattle.sv_walk.proofs.Orders.{translated_between}
use Rattle.leaf_link.proofs.Links.{answers_have, enlarged_has}

pub fetch_between : (t : Turn) → Between 0 2 (fetch_script t)
fetch_between t = translated_between 0 t.fixed.ram (fetch_view t.fixed) ForFetch t.fixed.pc refl refl

candidate_of : (t : Turn) (x : Values) → FetchDoes t x → IsFetchCandidate t (fetch_places t x)
candidate_of t x g =
    let exact : (q : Place) → fetch_places t x q ≡ started t.known g.log q = λ q. ap (λ (r : Answer Entry Reached). started t.known (log_of r) q) g.plays in
    record {
      log = g.log;
      pa = g.pa;
      plays = play_same (fetch_script t) (by_answers t.known (given_by x)) (by_known (enlarged t.known (fetch_places t x))) g.log (At g.pa) g.plays
          (λ e i. enlarged_has t.known g.log (given_by x) (fetch_places t x) exact g.agree e i (told (fetch_script t) (by_answers t.known (given_by x)) g.log (At g.pa) g.plays e i));
      exact = exact;
      meets = g.meets;
    }

pub given_fetch : (t : Turn) (log : List Entry) (l : Label) (e : Entry) → labelled log l ≡ Some e → t.known (entry_place e) ≡ None → label_number l < 2 → given_by (fetch_values t log) l ≡ e.value
given_fetch t log FetchRoot e one h early = ap (λ (o : Option Entry). new_value t.known o) one ∙ ap (λ (o : Option ℕ). if_new o e.value) h
given_fetch t log FetchSecond e one h early = ap (λ (o : Option Entry). new_value t.known o) one ∙ ap (λ (o : Option ℕ). if_new o e.value) h
given_fetch t log Fetched e one h early = absurd (omega (arith, early))
given_fetch t log FromRs1 e one h early = absurd (omega (arith, early))
given_fetch t log FromRs2 e one h early = absurd (omega (arith, early))
given_fetch t log FromCsr e one h early = absurd (omega (arith, early))
given_fetch t log DataRoot e one h early = absurd (omega (arith, early))
given_fetch t log DataSecond e one h early = absurd (omega (arith, early))
given_fetch t log DataWord e one h early = absurd (omega (arith, early))
given_fetch t log FromVector e one h early = absurd (omega (arith, early))

does_of : (t : Turn) (new : Known) → (w : IsFetchCandidate t new) → FetchDoes t (fetch_values t w.log)
does_of t new w =
    let s = fetch_script t in
    let tell = by_known (enlarged t.known new) in
    let known = told s tell w.log (At w.pa) w.plays in
    record {
      log = w.log;
      pa = w.pa;
      plays = play_same s tell (by_answers t.known (given_by (fetch_values t w.log))) w.log (At w.pa) w.plays
          (λ e i. answers_have t.known new (given_by (fetch_values t w.log)) e (known e i) (λ h.
          given_fetch t w.log (entry_label e) e (labelled_one 0 2 s tell w.log (At w.pa) (fetch_between t) w.plays e i) h (numbers_within 0 2 s tell w.log (At w.pa) (fetch_between t) w.plays e i).1));
      agree = λ e f i j h q.
          let a : enlarged t.known new (entry_place e) ≡ Some e.value = known e i in
          let b : enlarged t.known new (entry_place f) ≡ Some f.value = known f j in
          let d : enlarged t.known new (entry_place e) ≡ Some f.value = rw q b in
          cc;
      meets = w.meets;
      is = λ z. refl;
    }

apart_of : (t : Turn) (x y : Values) → FetchDoes t x → FetchDoes t y → ((q : Place) → fetch_places t x q ≡ fetch_places t y q) → (s : Slot) → x s ≡ y s
unfolding candidate_of
apart_of t x y g h same z =
    let s = fetch_script t in
    let k : Known = t.known in
    let a = candidate_of t x g in
    let b = candidate_of t y h in
    let one : answer_told (by_known (enlarged k (fetch_places t y))) s ≡ Does g.log (At g.pa) =
    play_same s (by_known (enlarged k (fetch_places t x))) (by_known (enlarged k (fetch_places t y))) g.log (At g.pa) a.plays
    (λ e i. ap (λ (o : Option ℕ). or_else (k (entry_place e)) o) (sym (same (entry_place e))) ∙ told s (by_known (enlarged k (fetch_places t x))) g.log (At g.pa) a.plays e i) in
    let logs : g.log ≡ h.log = let two = b.plays in cc in
    g.is z ∙ ap (λ (l : List Entry). fetch_values t l z) logs ∙ sym (h.is z)

pub fetches_are_exact : FetchesAreExact
unfolding does_of candidate_of
fetches_are_exact t = record {
  into = λ x f. candidate_of t x f;
  apart = λ x y f h. apart_of t x y f h;
  are_values = λ x f s. f.is s;
  onto = λ new w. (fetch_values t w.log, does_of t new w, λ q. (candidate_of t (fetch_values t w.log) (does_of t new w)).exact q ∙ sym (w.exact q), λ s. refl);
}
