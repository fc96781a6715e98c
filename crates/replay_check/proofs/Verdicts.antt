-- What the parts of a check say of the certificate.
use Rattle.std.proofs.Common.{◌≡◌, ℕ, zero, suc, ◌+◌, ◌<◌, ◌≤◌, Bool, true, false, nat_eq, nat_lt, if◌then◌else◌, List, [], ◌∷◌, length, take, refl, sym, ap, ◌∙◌, subst, inl, inr, arith}
use Rattle.std.proofs.lemmas.Bool.{cases_order, cases_lt, lt-ltb, le-ltb, ne_eqb}
use Rattle.std.proofs.lemmas.List.{get_or_past}
use Rattle.rv_script.specs.declared.access.Access.{Access}
use Rattle.rv_script.specs.Lists.{HasItem}
use Rattle.rv_script.proofs.Items.{has_either, has_first, has_second}
use Rattle.foot_map.specs.Races.{IsRaceFree}
use Rattle.foot_map.proofs.Races.{fewer}
use Rattle.rv_hart.specs.declared.record.Record.{Record}
use Rattle.tpl_admit.specs.declared.certificate.Cert.{Cert}
use Rattle.tpl_admit.specs.Starts.{start_of, trace_of, word_of, first_hart, first_memory, is_given}
use Rattle.tpl_admit.specs.Races.{footprint_of, footprints_of}
use Rattle.tpl_admit.specs.Validity.{IsHartValid, IsValid, MemoryEndsAsPrinted}
use Rattle.tpl_admit.specs.Admission.{Admits}
use Rattle.tpl_admit.specs.WellFormed.{IsWellFormed}
use Rattle.tpl_admit.specs.Unmet.{IsLeastFailure}
use Rattle.replay_check.specs.Failures.{HartIsRight, HartGoesWrong, AllAreRight, AllEndAsPrinted, FailsInStep, FailsAtEnd, did_before, RacesFrom, FailsInRace, IsFirstFailure}
use Rattle.tpl_admit.proofs.Failures.{admitted_never, one_least}
use Rattle.replay_check.specs.Internal.Memory.{AreInWords}
use Rattle.replay_check.specs.Internal.Replay.{EndsOtherwise, IsReplayed}
use Rattle.replay_check.proofs.Ends.{states_places}
use Rattle.replay_check.proofs.Traces.{course, right_course, right_never, goes_once}

pub valid : (c : Cert) → IsWellFormed c → IsReplayed c → IsRaceFree (footprints_of (trace_of c)) → Admits c → IsValid c
valid c w r free admits = record {
  sound = record {
    traces = w.traces_count;
    finals = w.finals_count;
    start_places = λ k. states_places c.start k w.start;
    final_places = λ k. states_places c.finals k w.finals;
    words = w.words;
    harts = λ k within.
        let run = course (word_of c) (is_given (start_of c k)) (first_hart c k) (first_memory c) (trace_of c k) (r.steps k within) in
        record { records = run.records; initialised = run.initialised; ends = r.ends k within };
    race_free = free;
    last = r.memory;
  };
  admits = admits;
}

pub first_end : (c : Cert) (hart step : ℕ) → AllAreRight c → EndsOtherwise c hart → step ≡ length (trace_of c hart) → IsFirstFailure c 4 hart step
first_end c hart step right other is = inr (inl (record {
  steps = right;
  kind_is = refl;
  there = other.there;
  before = other.before;
  wrong = other.wrong;
  step_is = is;
}))

pub first_of_memory : (c : Cert) (hart : ℕ) → AllAreRight c → AllEndAsPrinted c → (MemoryEndsAsPrinted c → ⊥) → hart ≡ length c.start → IsFirstFailure c 4 hart 0
first_of_memory c hart right ends wrong is = inr (inr (inl (record {
  steps = right;
  ends = ends;
  kind_is = refl;
  wrong = wrong;
  hart_is = is;
  step_is = refl;
})))

pub first_of_race : (c : Cert) (hart step : ℕ) → IsReplayed c → RacesFrom c hart step → IsFirstFailure c 5 hart step
first_of_race c hart step r from = inr (inr (inr (inl (record {
  steps = r.steps;
  ends = r.ends;
  memory = r.memory;
  kind_is = refl;
  from = from;
}))))

pub first_of_template : (c : Cert) (hart step atom : ℕ) → IsReplayed c → IsRaceFree (footprints_of (trace_of c)) → IsLeastFailure c hart step atom → IsFirstFailure c 6 hart step
first_of_template c hart step atom r free least = inr (inr (inr (inr (record {
  steps = r.steps;
  ends = r.ends;
  memory = r.memory;
  race_free = free;
  kind_is = refl;
  atom = atom;
  least = least;
}))))

-- ---- one answer at most

valid_right : (c : Cert) (k : ℕ) → IsHartValid c k → HartIsRight c k
valid_right c k v = right_course (word_of c) (is_given (start_of c k)) (first_hart c k) (first_memory c) (trace_of c k) v.records v.initialised

-- a hart whose steps are right has none that is wrong
never_wrong : (c : Cert) (k kind step : ℕ) → HartIsRight c k → HartGoesWrong c k kind step → ⊥
never_wrong c k kind step right wrong = right_never (word_of c) (is_given (start_of c k)) (first_hart c k) (first_memory c) (trace_of c k) 0 kind step right wrong

-- ---- races

-- what the first records did, more of them did too
took_more : (rs : List Record) (n n' : ℕ) (x : Access) → n ≤ n' → HasItem (footprint_of (take n rs)) x → HasItem (footprint_of (take n' rs)) x
took_more [] n zero x up at = absurd (none n at)
  where
    none : (n : ℕ) → HasItem (footprint_of (take n [])) x → ⊥
    none zero at = at
    none (suc n) at = at
took_more rs zero n' x up at = absurd at
took_more rs (suc n) zero x up at = absurd (omega (arith, up))
took_more [] (suc n) (suc n') x up at = absurd at
took_more (r ∷ rs) (suc n) (suc n') x up at = elim (has_either r.accesses (footprint_of (take n rs)) x at) [
  | inl here ↦ has_first r.accesses (footprint_of (take n' rs)) x here
  | inr later ↦ has_second r.accesses (footprint_of (take n' rs)) x (took_more rs n n' x (omega (arith, up)) later)
]

took_all : (rs : List Record) (n : ℕ) (x : Access) → HasItem (footprint_of (take n rs)) x → HasItem (footprint_of rs) x
took_all rs zero x at = absurd at
took_all [] (suc n) x at = absurd at
took_all (r ∷ rs) (suc n) x at = elim (has_either r.accesses (footprint_of (take n rs)) x at) [
  | inl here ↦ has_first r.accesses (footprint_of rs) x here
  | inr later ↦ has_second r.accesses (footprint_of rs) x (took_all rs n x later)
]

-- what was done before a record is part of all that was done
before_all : (c : Cert) (hart n k : ℕ) (x : Access) → HasItem (did_before c hart n k) x → HasItem (footprints_of (trace_of c) k) x
before_all c hart n k x at = go (nat_lt k hart) (nat_eq k hart) at
  where
    go : (below same : Bool) → HasItem (if below then footprint_of (trace_of c k) else (if same then footprint_of (take n (trace_of c k)) else [])) x → HasItem (footprint_of (trace_of c k)) x
    go true same at = at
    go false true at = took_all (trace_of c k) n x at
    go false false at = absurd at

-- and part of what was done before a later record of the same hart
before_more : (c : Cert) (hart n n' k : ℕ) (x : Access) → n ≤ n' → HasItem (did_before c hart n k) x → HasItem (did_before c hart n' k) x
before_more c hart n n' k x up at = go (nat_lt k hart) (nat_eq k hart) at
  where
    go : (below same : Bool) → HasItem (if below then footprint_of (trace_of c k) else (if same then footprint_of (take n (trace_of c k)) else [])) x
        → HasItem (if below then footprint_of (trace_of c k) else (if same then footprint_of (take n' (trace_of c k)) else [])) x
    go true same at = at
    go false true at = took_more (trace_of c k) n n' x up at
    go false false at = at

-- and of what was done before a record of a later hart
before_later : (c : Cert) (hart hart' n n' k : ℕ) (x : Access) → hart < hart' → HasItem (did_before c hart n k) x → HasItem (did_before c hart' n' k) x
before_later c hart hart' n n' k x later at = elim (cases_lt k hart') [
  | inl below ↦ rw (lt-ltb k hart' below) (before_all c hart n k x at)
  | inr above ↦
      let not_below : nat_lt k hart ≡ false = le-ltb k hart (omega (arith, later, above)) in
      let other : nat_eq k hart ≡ false = ne_eqb k hart (λ same. absurd (omega (arith, same, later, above))) in
      absurd (go (nat_lt k hart) (nat_eq k hart) not_below other at)
]
  where
    go : (b s : Bool) → b ≡ false → s ≡ false → HasItem (if b then footprint_of (trace_of c k) else (if s then footprint_of (take n (trace_of c k)) else [])) x → ⊥
    go true s e f at = absurd (cc e)
    go false true e f at = absurd (cc f)
    go false false e f at = at

-- races from a record on are races of all that was done
race_never : (c : Cert) (kind hart step : ℕ) → IsRaceFree (footprints_of (trace_of c)) → FailsInRace c kind hart step → ⊥
race_never c kind hart step free f = f.from.races (fewer (did_before c hart (step + 1)) (footprints_of (trace_of c)) (λ k x at. before_all c hart (step + 1) k x at) free)

-- two records from which on there are races are one
race_once : (c : Cert) (kind hart step kind' hart' step' : ℕ) → FailsInRace c kind hart step → FailsInRace c kind' hart' step' → (kind ≡ kind') × (hart ≡ hart') × (step ≡ step')
race_once c kind hart step kind' hart' step' f g = elim (cases_order hart hart') [
  | inl same ↦ (f.kind_is ∙ sym g.kind_is, same, same_step same)
  | inr apart ↦ absurd (elim apart [
    | inl below ↦ f.from.races (fewer (did_before c hart (step + 1)) (did_before c hart' step') (λ k x at. before_later c hart hart' (step + 1) step' k x below at) g.from.before)
    | inr above ↦ g.from.races (fewer (did_before c hart' (step' + 1)) (did_before c hart step) (λ k x at. before_later c hart' hart (step' + 1) step k x above at) f.from.before)
  ])
]
  where
    not_before : (a b n : ℕ) → a < b → IsRaceFree (did_before c n b) → (IsRaceFree (did_before c n (a + 1)) → ⊥) → ⊥
    not_before a b n below free races = races (fewer (did_before c n (a + 1)) (did_before c n b) (λ k x at. before_more c n (a + 1) b k x (omega (arith, below)) at) free)

    same_step : hart ≡ hart' → step ≡ step'
    same_step same = elim (cases_order step step') [
      | inl is ↦ is
      | inr apart ↦ absurd (elim apart [
        | inl below ↦ not_before step step' hart' below g.from.before (subst (λ (n : ℕ). IsRaceFree (did_before c n (step + 1)) → ⊥) same f.from.races)
        | inr above ↦ not_before step' step hart' above (subst (λ (n : ℕ). IsRaceFree (did_before c n step)) same f.from.before) g.from.races
      ])
    ]

pub valid_never : (c : Cert) (kind hart step : ℕ) → IsFirstFailure c kind hart step → IsValid c → ⊥
valid_never c kind hart step (inl f) v = never_wrong c hart kind step (valid_right c hart (v.sound.harts hart f.there)) f.wrong
valid_never c kind hart step (inr (inl f)) v = f.wrong (v.sound.harts hart f.there).ends
valid_never c kind hart step (inr (inr (inl f))) v = f.wrong v.sound.last
valid_never c kind hart step (inr (inr (inr (inl f)))) v = race_never c kind hart step v.sound.race_free f
valid_never c kind hart step (inr (inr (inr (inr f)))) v = admitted_never c hart step f.atom v.admits f.least

-- ---- two failures

-- two steps that go wrong first are one
step_once : (c : Cert) (kind hart step kind' hart' step' : ℕ) → FailsInStep c kind hart step → FailsInStep c kind' hart' step' → (kind ≡ kind') × (hart ≡ hart') × (step ≡ step')
step_once c kind hart step kind' hart' step' f g = elim (cases_order hart hart') [
  | inl same ↦
      let wrong : HartGoesWrong c hart' kind step = subst (λ (k : ℕ). HartGoesWrong c k kind step) same f.wrong in
      let once = goes_once (word_of c) (is_given (start_of c hart')) (first_hart c hart') (first_memory c) (trace_of c hart') 0 kind step kind' step' wrong g.wrong in
      (once.0, same, once.1)
  | inr apart ↦ absurd (elim apart [
    | inl below ↦ never_wrong c hart kind step (g.before hart below) f.wrong
    | inr above ↦ never_wrong c hart' kind' step' (f.before hart' above) g.wrong
  ])
]

end_once : (c : Cert) (kind hart step kind' hart' step' : ℕ) → FailsAtEnd c kind hart step → FailsAtEnd c kind' hart' step' → (kind ≡ kind') × (hart ≡ hart') × (step ≡ step')
end_once c kind hart step kind' hart' step' f g = elim (cases_order hart hart') [
  | inl same ↦ (f.kind_is ∙ sym g.kind_is, same, f.step_is ∙ ap (λ (k : ℕ). length (trace_of c k)) same ∙ sym g.step_is)
  | inr apart ↦ absurd (elim apart [ inl below ↦ f.wrong (g.before hart below) | inr above ↦ g.wrong (f.before hart' above) ])
]

-- right steps exclude one that goes wrong
steps_never : (c : Cert) (kind hart step : ℕ) → AllAreRight c → FailsInStep c kind hart step → ⊥
steps_never c kind hart step right f = never_wrong c hart kind step (right hart f.there) f.wrong

pub failure_once : (c : Cert) (kind hart step kind' hart' step' : ℕ) → IsFirstFailure c kind hart step → IsFirstFailure c kind' hart' step' → (kind ≡ kind') × (hart ≡ hart') × (step ≡ step')
failure_once c kind hart step kind' hart' step' (inl f) (inl g) = step_once c kind hart step kind' hart' step' f g
failure_once c kind hart step kind' hart' step' (inl f) (inr (inl g)) = absurd (steps_never c kind hart step g.steps f)
failure_once c kind hart step kind' hart' step' (inl f) (inr (inr (inl g))) = absurd (steps_never c kind hart step g.steps f)
failure_once c kind hart step kind' hart' step' (inl f) (inr (inr (inr (inl g)))) = absurd (steps_never c kind hart step g.steps f)
failure_once c kind hart step kind' hart' step' (inl f) (inr (inr (inr (inr g)))) = absurd (steps_never c kind hart step g.steps f)
failure_once c kind hart step kind' hart' step' (inr (inl f)) (inl g) = absurd (steps_never c kind' hart' step' f.steps g)
failure_once c kind hart step kind' hart' step' (inr (inl f)) (inr (inl g)) = end_once c kind hart step kind' hart' step' f g
failure_once c kind hart step kind' hart' step' (inr (inl f)) (inr (inr (inl g))) = absurd (f.wrong (g.ends hart f.there))
failure_once c kind hart step kind' hart' step' (inr (inl f)) (inr (inr (inr (inl g)))) = absurd (f.wrong (g.ends hart f.there))
failure_once c kind hart step kind' hart' step' (inr (inl f)) (inr (inr (inr (inr g)))) = absurd (f.wrong (g.ends hart f.there))
failure_once c kind hart step kind' hart' step' (inr (inr (inl f))) (inl g) = absurd (steps_never c kind' hart' step' f.steps g)
failure_once c kind hart step kind' hart' step' (inr (inr (inl f))) (inr (inl g)) = absurd (g.wrong (f.ends hart' g.there))
failure_once c kind hart step kind' hart' step' (inr (inr (inl f))) (inr (inr (inl g))) = (f.kind_is ∙ sym g.kind_is, f.hart_is ∙ sym g.hart_is, f.step_is ∙ sym g.step_is)
failure_once c kind hart step kind' hart' step' (inr (inr (inl f))) (inr (inr (inr (inl g)))) = absurd (f.wrong g.memory)
failure_once c kind hart step kind' hart' step' (inr (inr (inl f))) (inr (inr (inr (inr g)))) = absurd (f.wrong g.memory)
failure_once c kind hart step kind' hart' step' (inr (inr (inr (inl f)))) (inl g) = absurd (steps_never c kind' hart' step' f.steps g)
failure_once c kind hart step kind' hart' step' (inr (inr (inr (inl f)))) (inr (inl g)) = absurd (g.wrong (f.ends hart' g.there))
failure_once c kind hart step kind' hart' step' (inr (inr (inr (inl f)))) (inr (inr (inl g))) = absurd (g.wrong f.memory)
failure_once c kind hart step kind' hart' step' (inr (inr (inr (inl f)))) (inr (inr (inr (inl g)))) = race_once c kind hart step kind' hart' step' f g
failure_once c kind hart step kind' hart' step' (inr (inr (inr (inl f)))) (inr (inr (inr (inr g)))) = absurd (race_never c kind hart step g.race_free f)
failure_once c kind hart step kind' hart' step' (inr (inr (inr (inr f)))) (inl g) = absurd (steps_never c kind' hart' step' f.steps g)
failure_once c kind hart step kind' hart' step' (inr (inr (inr (inr f)))) (inr (inl g)) = absurd (g.wrong (f.ends hart' g.there))
failure_once c kind hart step kind' hart' step' (inr (inr (inr (inr f)))) (inr (inr (inl g))) = absurd (g.wrong f.memory)
failure_once c kind hart step kind' hart' step' (inr (inr (inr (inr f)))) (inr (inr (inr (inl g)))) = absurd (race_never c kind' hart' step' f.race_free g)
failure_once c kind hart step kind' hart' step' (inr (inr (inr (inr f)))) (inr (inr (inr (inr g)))) =
    let once = one_least c hart step f.atom hart' step' g.atom f.least g.least in
    (f.kind_is ∙ sym g.kind_is, once.0, once.1)
