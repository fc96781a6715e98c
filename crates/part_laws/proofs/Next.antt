-- One step more from scratch is the next step on what is known.
use Rattle.std.proofs.Common.{◌≡◌, ℕ, ◌/◌, ◌<◌, Bool, true, eqb, List, [], ◌∷◌, ◌++◌, Option, Some, None, refl, sym, ap, ◌∙◌, subst, inl, inr}
use Rattle.std.specs.Prelude.{IsSome}
use Rattle.std.specs.Option.{is_some}
use Rattle.std.proofs.lemmas.Bool.{cases_Bool, lt-ltb}
use Rattle.rv_csr.specs.Table.{csr_key}
use Rattle.rv_script.specs.declared.access.Access.{Access}
use Rattle.rv_script.specs.declared.place.Place.{Place}
use Rattle.rv_script.specs.declared.place.Place.TheVariants.{Reg, Csr, Word}
use Rattle.rv_script.specs.Lists.{HasItem}
use Rattle.rv_script.specs.Memory.{memory_after}
use Rattle.rv_script.specs.Script.{Question, Question.OfRegister, Question.OfCsr, Question.OfMemory, Question.ToMemory, place_of, access_of}
use Rattle.rv_script.specs.Folds.{Known, Teller, by_known, Answer.Does, answer_on, answer_by, Entry, Sight, asked_of, result_of, accesses_of, or_next, first_missing}
use Rattle.rv_script.proofs.Results.{asks_of}
use Rattle.rv_script.proofs.Wholes.{whole}
use Rattle.rv_hart.specs.declared.record.Change.{Change}
use Rattle.rv_hart.specs.declared.record.Record.{Record}
use Rattle.rv_hart.specs.Asked.{IsInFile}
use Rattle.rv_hart.specs.Clauses.{Has}
use Rattle.rv_hart.specs.Fixed.{Fixed}
use Rattle.rv_hart.specs.Machine.{script}
use Rattle.rv_hart.specs.Whole.{WholeHart, sight_of, Step, step_by, planned, record_of, hart_after}
use Rattle.rv_hart.proofs.Asked.{asks_registers}
use Rattle.tpl_admit.specs.Solo.{IsRight, is_set, knows_also}
use Rattle.tpl_admit.specs.Races.{footprints_of}
use Rattle.tpl_admit.specs.System.{System}
use Rattle.tpl_admit.specs.Validity.{in_turn}
use Rattle.tpl_admit.proofs.Memory.{byte_of, HoldsWords, memory_after_words, in_turn_one}
use Rattle.rv_hart.proofs.Entries.{entry_place}
use Rattle.part_laws.specs.Partial.{Held, Partial, Begins, End, Runs, is_held, IsReached, IsAlone, IsPartialTest, known_by}
use Rattle.part_laws.specs.Laws.{NextLaw}
use Rattle.part_laws.proofs.Runs.{right_here, runs_memory}
use Rattle.part_laws.proofs.Advance.{LooksAlike, IsStepOn, IsFree, has_known, in_turn_words, is_free, step_alone}

-- ---- the last step of a run

pub runs_last : (words : ℕ → Option ℕ) (knows : ℕ → Bool) (h : WholeHart) (m : ℕ → ℕ) (rs : List Record) (r : Record) (mid e : End)
    → Runs words knows h m rs mid → Runs words knows h m (rs ++ r ∷ []) e → (s : Step) × IsRight words mid.knows mid.hart mid.memory r s
runs_last words knows h m [] r mid e runs more = (more.0, right_here words knows mid.knows h mid.hart m mid.memory r more.0 (sym runs.2) (sym runs.0) (sym runs.1) more.1)
runs_last words knows h m (q ∷ rs) r mid e runs more =
    let s : Step = runs.0 in
    let found : Some more.0 ≡ Some s = sym more.1.step ∙ runs.1.step in
    let same : more.0 ≡ s = cc found in
    runs_last words (knows_also s.writes knows) (hart_after s h) (memory_after s.did.accesses m) rs r mid e runs.2
    (subst (λ (z : Step). Runs words (knows_also z.writes knows) (hart_after z h) (memory_after z.did.accesses m) (rs ++ r ∷ []) e) same more.2)

-- ---- what the step needs is known

-- a register is one of 32
abbrev pub IsPlaceInFile : Place → Type 0
IsPlaceInFile (Reg n) = n < 32
IsPlaceInFile (Csr addr) = Unit {0}
IsPlaceInFile (Word addr) = Unit {0}

in_file : (q : Question) → IsInFile q → IsPlaceInFile (place_of q)
in_file (OfRegister label n) h = h
in_file (OfCsr label addr) h = tt
in_file (OfMemory label addr size) h = tt
in_file (ToMemory addr size value) h = tt

set_known : (first : WholeHart) (e : End) (now : Held) (memory words : ℕ → Option ℕ) → IsReached first e now → ((n : ℕ) → is_some (memory n) ≡ is_some (words n))
    → (place : Place) → IsPlaceInFile place → is_set e.knows words place ≡ true → IsSome (known_by now memory place)
set_known first e now memory words reached same (Reg n) small set = elim (cases_Bool (eqb n 0)) [
  | inl z ↦ rw z refl
  | inr s ↦ let k : e.knows n ≡ true = rw s at set in rw (s, lt-ltb n 32 small) (sym (reached.knows n) ∙ k)
]
set_known first e now memory words reached same (Csr addr) small set = sym (reached.knows (csr_key addr)) ∙ set
set_known first e now memory words reached same (Word addr) small set = same (addr / 4) ∙ set

none_missing : (tell : Teller) (log : List Entry) → ((e : Entry) → HasItem log e → IsSome (tell e.question)) → first_missing tell log ≡ None
none_missing tell [] all = refl
none_missing tell (e ∷ log) all = go (tell e.question) (all e (inl refl)) (none_missing tell log (λ f i. all f (inr i)))
  where
    go : (o : Option ℕ) → IsSome o → first_missing tell log ≡ None → or_next o (place_of e.question) (first_missing tell log) ≡ None
    go None some later = absurd (cc some)
    go (Some v) some later = later

-- ---- the step's change

planned_by : (f : Fixed) (xs : List Access) (o : Option Change) (s : Step) → planned f xs o ≡ Some s → (c : Change) × (o ≡ Some c) × (step_by f xs c ≡ s)
planned_by f xs None s h = absurd (cc h)
planned_by f xs (Some c) s h = let same : step_by f xs c ≡ s = cc h in (c, refl, same)

-- ---- the law

-- the step on the common memory
common : (p : Partial) (k : ℕ) (r : Record) → IsPartialTest p → k < p.count → IsFree p k r.accesses → (sys : System) → Begins p sys → (a : IsAlone p sys k)
    → (s : Step) → IsRight p.words a.end.knows a.end.hart a.end.memory r s
    → IsStepOn a.end.hart a.end.memory (in_turn p.count (footprints_of p.records) sys.memory) s
common p k r test l free sys begins a s right =
    let all : ℕ → ℕ = in_turn p.count (footprints_of p.records) sys.memory in
    let own : ℕ → ℕ = a.end.memory in
    let own_is : own ≡ memory_after (footprints_of p.records k) sys.memory = runs_memory p.words (is_held (p.start k)) (sys.harts k) sys.memory (p.records k) a.end a.runs in
    let small : HoldsWords own = subst (λ (m : ℕ → ℕ). HoldsWords m) (sym own_is) (memory_after_words (footprints_of p.records k) sys.memory begins.small) in
    let alike : LooksAlike r.accesses own all = λ x hx looks b u.
    in_turn_one p.count (footprints_of p.records) sys.memory k b l (λ j v ne. free.old j ne) (λ j v ne y hy w. free.looks j ne x y hy hx b u w)
    ∙ ap (λ (m : ℕ → ℕ). byte_of m b) (sym own_is) in
    let did : LooksAlike s.did.accesses own all = subst (λ (q : Record). LooksAlike q.accesses own all) (sym right.did) alike in
    step_alone a.end.hart own all s right.step small (in_turn_words p.count (footprints_of p.records) sys.memory begins.small) did

pub next : NextLaw
next p k r sys e test l begins runs race_free =
    let now : Held = p.harts k in
    let a : IsAlone p sys k = test.alone sys begins k l in
    let h : WholeHart = a.end.hart in
    let all : ℕ → ℕ = in_turn p.count (footprints_of p.records) sys.memory in
    let last = runs_last p.words (is_held (p.start k)) (sys.harts k) sys.memory (p.records k) r a.end e a.runs runs in
    let s : Step = last.0 in
    let on : IsStepOn h a.end.memory all s = common p k r test l (is_free p k r race_free) sys begins a s last.1 in
    let see : Sight = sight_of h.file all in
    let known : Known = known_by now p.memory in
    let has : Has now.fixed known h all = has_known (sys.harts k) a.end now p.memory all a.reached (test.memory sys begins) in
    let some : (d : Entry) → HasItem (asked_of (script h.fixed) see) d → IsSome (known (place_of d.question)) =
    λ d at. set_known (sys.harts k) a.end now p.memory p.words a.reached test.known (place_of d.question) (in_file d.question (asks_of IsInFile (script h.fixed) see (asks_registers h.fixed) d at))
    (last.1.set (place_of d.question) (subst (λ (ps : List Place). HasItem ps (place_of d.question)) on.needs (entry_place (asked_of (script h.fixed) see) d at))) in
    let none : first_missing (by_known known) (asked_of (script h.fixed) see) ≡ None = none_missing (by_known known) (asked_of (script h.fixed) see) some in
    let xs : List Access = accesses_of (script h.fixed) see in
    let c = planned_by h.fixed xs (result_of (script h.fixed) see) s on.step in
    let told : answer_on known (script h.fixed) ≡ Does xs c.0 =
    whole access_of (script h.fixed) (by_known known) see (λ q v t. has.values (place_of q) v t)
    ∙ ap (λ (o : Option Place). answer_by o xs (result_of (script h.fixed) see)) none ∙ ap (λ (o : Option Change). answer_by None xs o) c.1 in
    record {
      accesses = xs;
      change = c.0;
      next = subst (λ (f : Fixed). answer_on known (script f) ≡ Does xs c.0) a.reached.fixed told;
      is = sym last.1.did ∙ ap (λ (q : Step). q.did) (sym c.2) ∙ ap (λ (f : Fixed). record_of f xs c.0) a.reached.fixed;
    }
