-- A run as its first steps and the rest.
use Rattle.std.proofs.Common.{◌≡◌, ℕ, ◌+◌, ◌<◌, ◌≤◌, Bool, true, false, List, [], ◌∷◌, ◌++◌, length, take, drop, get_or, Option, Some, None, if◌then◌else◌, refl, sym, ap, ◌∙◌, subst, append-nil}
use Rattle.std.specs.List.{AllByRecursion}
use Rattle.std.proofs.lemmas.List.{take_more, take_all, drop_more, take-append-drop, length-append}
use Rattle.rv_mem.specs.declared.words.Seen.{Seen}
use Rattle.rv_hart.specs.declared.hart.Hart.{Hart}
use Rattle.rv_hart.specs.declared.record.Record.{Record}
use Rattle.rv_hart.specs.Clauses.{IsFitRecord}
use Rattle.rv_hart.specs.Whole.{Step}
use Rattle.tpl_admit.specs.System.{System, Ran, goes_on, moved, run_of}
use Rattle.rv_system.specs.Runs.{RunsWith, StopsAt, moved_by, next_of, record_in}
use Rattle.rv_system.specs.Systems.{IsWholeOf}

-- how a run ended
abbrev pub ran : List (ℕ × Record) → System → Bool → Ran
ran events now whole = record { events = events; system = now; whole = whole }

-- a run, and if that did its whole schedule another one from where it ended
abbrev then_run : Ran → (System → Ran) → Ran
then_run r rest = if r.whole then ran (r.events ++ (rest r.system).events) (rest r.system).system (rest r.system).whole else r

abbrev with_event : ℕ × Record → Ran → Ran
with_event e r = ran (e ∷ r.events) r.system r.whole

event_first : (e : ℕ × Record) (es : List (ℕ × Record)) (now : System) (whole : Bool) (rest : System → Ran) → with_event e (then_run (ran es now whole) rest) ≡ then_run (with_event e (ran es now whole)) rest
event_first e es now true rest = refl
event_first e es now false rest = refl

run_then : (ks js : List ℕ) (sys : System) → run_of (ks ++ js) sys ≡ then_run (run_of ks sys) (λ now. run_of js now)
run_then [] js sys = refl
run_then (k ∷ ks) js sys = go (λ now. run_then ks js now) (next_of k sys)
  where
    go : ((now : System) → run_of (ks ++ js) now ≡ then_run (run_of ks now) (λ last. run_of js last)) → (o : Option Step) → goes_on o k sys (λ now. run_of (ks ++ js) now) ≡ then_run (goes_on o k sys (λ now. run_of ks now)) (λ now. run_of js now)
    go rest None = refl
    go rest (Some s) =
        let r = run_of ks (moved k s sys) in
        ap (λ (q : Ran). with_event (k, s.did) q) (rest (moved k s sys)) ∙ event_first (k, s.did) r.events r.system r.whole (λ now. run_of js now)

-- after so many events of a schedule: they are those of its run, which leads to a system for which these harts and this memory stand
pub record IsUpTo (schedule : List ℕ) (i : ℕ) (sys : System) (events : List (ℕ × Record)) (harts : List Hart) (at : ℕ → Seen) : Type 0 where
  pub now : System
  pub run : run_of (take i schedule) sys ≡ ran events now true
  pub count : length events ≡ i
  pub stand : IsWholeOf harts at now

pub none_yet : (schedule : List ℕ) (sys : System) (harts : List Hart) (at : ℕ → Seen) → IsWholeOf harts at sys → IsUpTo schedule 0 sys [] harts at
none_yet schedule sys harts at stand = record { now = sys; run = refl; count = refl; stand = stand }

-- ---- a step more

told_by : (o : Option Step) (r : Record) → Some r ≡ record_in o → (s : Step) × (o ≡ Some s) × (s.did ≡ r)
told_by None r e = absurd (cc e)
told_by (Some s) r e = (s, refl, cc)

pub one_more : (schedule : List ℕ) (i : ℕ) (sys : System) (events after : List (ℕ × Record)) (harts new_harts : List Hart) (at new_at : ℕ → Seen) (r : Record) → i < length schedule
    → (up : IsUpTo schedule i sys events harts at) → after ≡ events ++ (get_or schedule i 0, r) ∷ [] → Some r ≡ record_in (next_of (get_or schedule i 0) up.now)
    → IsWholeOf new_harts new_at (moved_by (next_of (get_or schedule i 0) up.now) (get_or schedule i 0) up.now) → IsUpTo schedule (i + 1) sys after new_harts new_at
one_more schedule i sys events after harts new_harts at new_at r within up appended told stand =
    let k : ℕ = get_or schedule i 0 in
    let next = told_by (next_of k up.now) r told in
    let s : Step = next.0 in
    let one : run_of (k ∷ []) up.now ≡ ran ((k, s.did) ∷ []) (moved k s up.now) true = ap (λ (o : Option Step). goes_on o k up.now (λ now. run_of [] now)) next.1 in
    let did : events ++ (k, s.did) ∷ [] ≡ after = ap (λ (q : Record). events ++ (k, q) ∷ []) next.2 ∙ sym appended in
    record {
      now = moved k s up.now;
      run = ap (λ (ks : List ℕ). run_of ks sys) (take_more schedule i 0 within) ∙ run_then (take i schedule) (k ∷ []) sys ∙ ap (λ (q : Ran). then_run q (λ now. run_of (k ∷ []) now)) up.run
          ∙ ap (λ (q : Ran). ran (events ++ q.events) q.system q.whole) one ∙ ap (λ (es : List (ℕ × Record)). ran es (moved k s up.now) true) did;
      count = ap length appended ∙ length-append events ((k, r) ∷ []) ∙ ap (λ (n : ℕ). n + 1) up.count;
      stand = subst (λ (o : Option Step). IsWholeOf new_harts new_at (moved_by o k up.now)) next.1 stand;
    }

-- ---- the end

pub whole_run : (schedule : List ℕ) (i : ℕ) (sys : System) (events : List (ℕ × Record)) (harts : List Hart) (at : ℕ → Seen) → length schedule ≤ i → (up : IsUpTo schedule i sys events harts at) → run_of schedule sys ≡ ran events up.now true
whole_run schedule i sys events harts at end up = ap (λ (ks : List ℕ). run_of ks sys) (sym (take_all i schedule end)) ∙ up.run

pub runs_with : (schedule : List ℕ) (i : ℕ) (sys : System) (events : List (ℕ × Record)) (harts : List Hart) (at : ℕ → Seen) → length schedule ≤ i → IsUpTo schedule i sys events harts at → RunsWith schedule sys events
runs_with schedule i sys events harts at end up =
    let all = whole_run schedule i sys events harts at end up in
    record { whole = ap (λ (r : Ran). r.whole) all; events = ap (λ (r : Ran). r.events) all }

pub end_stand : (schedule : List ℕ) (i : ℕ) (sys : System) (events : List (ℕ × Record)) (harts : List Hart) (at : ℕ → Seen) → length schedule ≤ i → IsUpTo schedule i sys events harts at → IsWholeOf harts at (run_of schedule sys).system
end_stand schedule i sys events harts at end up = subst (λ (r : Ran). IsWholeOf harts at r.system) (sym (whole_run schedule i sys events harts at end up)) up.stand

-- ---- where there is no step

no_step : (o : Option Step) → None ≡ record_in o → o ≡ None
no_step None e = refl
no_step (Some s) e = absurd (cc e)

stopped_run : (schedule : List ℕ) (i : ℕ) (sys : System) (events : List (ℕ × Record)) (harts : List Hart) (at : ℕ → Seen) → i < length schedule → (up : IsUpTo schedule i sys events harts at)
    → None ≡ record_in (next_of (get_or schedule i 0) up.now) → run_of schedule sys ≡ ran events up.now false
stopped_run schedule i sys events harts at within up told =
    let k : ℕ = get_or schedule i 0 in
    let rest : List ℕ = k ∷ drop (i + 1) schedule in
    let none : run_of rest up.now ≡ ran [] up.now false = ap (λ (o : Option Step). goes_on o k up.now (λ now. run_of (drop (i + 1) schedule) now)) (no_step (next_of k up.now) told) in
    ap (λ (ks : List ℕ). run_of ks sys) (sym (take-append-drop i schedule) ∙ ap (λ (js : List ℕ). take i schedule ++ js) (drop_more schedule i 0 within)) ∙ run_then (take i schedule) rest sys
    ∙ ap (λ (q : Ran). then_run q (λ now. run_of rest now)) up.run ∙ ap (λ (q : Ran). ran (events ++ q.events) q.system q.whole) none ∙ ap (λ (es : List (ℕ × Record)). ran es up.now false) (append-nil events)

pub stops_at : (schedule : List ℕ) (i : ℕ) (sys : System) (events : List (ℕ × Record)) (harts : List Hart) (at : ℕ → Seen) → i < length schedule → (up : IsUpTo schedule i sys events harts at)
    → None ≡ record_in (next_of (get_or schedule i 0) up.now) → StopsAt schedule sys i
stops_at schedule i sys events harts at within up told =
    let k : ℕ = get_or schedule i 0 in
    let all = stopped_run schedule i sys events harts at within up told in
    let now : (run_of schedule sys).system ≡ up.now = ap (λ (r : Ran). r.system) all in
    record {
      within = within;
      stops = ap (λ (r : Ran). r.whole) all;
      no_step = ap (λ (q : System). next_of k q) now ∙ no_step (next_of k up.now) told;
      count = ap (λ (r : Ran). length r.events) all ∙ up.count;
      before = ap (λ (r : Ran). r.whole) up.run;
      events = ap (λ (r : Ran). r.events) all ∙ sym (ap (λ (r : Ran). r.events) up.run);
      system = now ∙ sym (ap (λ (r : Ran). r.system) up.run);
    }

pub stopped_stand : (schedule : List ℕ) (i : ℕ) (sys : System) (events : List (ℕ × Record)) (harts new_harts : List Hart) (at new_at : ℕ → Seen) → i < length schedule → (up : IsUpTo schedule i sys events harts at)
    → None ≡ record_in (next_of (get_or schedule i 0) up.now) → IsWholeOf new_harts new_at (moved_by (next_of (get_or schedule i 0) up.now) (get_or schedule i 0) up.now) → IsWholeOf new_harts new_at (run_of schedule sys).system
stopped_stand schedule i sys events harts new_harts at new_at within up told stand =
    let k : ℕ = get_or schedule i 0 in
    let now : (run_of schedule sys).system ≡ up.now = ap (λ (r : Ran). r.system) (stopped_run schedule i sys events harts at within up told) in
    subst (λ (q : System). IsWholeOf new_harts new_at q) (sym now) (subst (λ (o : Option Step). IsWholeOf new_harts new_at (moved_by o k up.now)) (no_step (next_of k up.now) told) stand)

-- what stands before the position runs to its end
pub before_stops : (schedule : List ℕ) (sys : System) (at next : ℕ) → StopsAt schedule sys at → StopsAt (take at schedule) sys next → ⊥
before_stops schedule sys at next stops again = let no : true ≡ false = sym stops.before ∙ again.stops in absurd (cc no)

-- ---- records that can stand in a file

pub all_more : (events after : List (ℕ × Record)) (k : ℕ) (r : Record) → AllByRecursion (λ e. IsFitRecord e.1) events → after ≡ events ++ (k, r) ∷ [] → IsFitRecord r → AllByRecursion (λ e. IsFitRecord e.1) after
all_more events after k r all appended fit = subst (AllByRecursion (λ e. IsFitRecord e.1)) (sym appended) (go events all)
  where
    go : (es : List (ℕ × Record)) → AllByRecursion (λ e. IsFitRecord e.1) es → AllByRecursion (λ e. IsFitRecord e.1) (es ++ (k, r) ∷ [])
    go [] all = (fit, tt)
    go (e ∷ es) all = (all.0, go es all.1)
