-- A step on what is known is that of the whole hart with zero elsewhere.
use Rattle.std.proofs.Common.{◌≡◌, ◌≢◌, ℕ, ◌/◌, ◌<◌, Bool, true, false, ◌||◌, List, [], ◌∷◌, length, map, Option, Some, None, refl, sym, ap, ◌∙◌, subst, inl, inr, arith}
use Rattle.std.specs.Prelude.{slice_index_or}
use Rattle.std.specs.Option.{unwrap_or, is_some}
use Rattle.std.proofs.Math.Path.{fun_ext}
use Rattle.std.proofs.lemmas.Bool.{cases_eq, cases_lt, eq-eqb, ne_eqb, lt-ltb}
use Rattle.std.proofs.lemmas.List.{get_or_past}
use Rattle.std.proofs.lemmas.Option.{get_or_from_slice_get}
use Rattle.rv_mem.specs.declared.words.Seen.{Seen}
use Rattle.rv_script.specs.declared.access.Access.{Access}
use Rattle.rv_script.specs.declared.place.Place.{Place}
use Rattle.rv_script.specs.declared.place.Place.TheVariants.{Reg, Csr, Word}
use Rattle.rv_script.specs.Lists.{HasItem}
use Rattle.rv_script.specs.Memory.{memory_after}
use Rattle.rv_script.specs.Script.{place_of}
use Rattle.rv_script.specs.Folds.{Known, by_known, Entry, asked_of, or_next, first_missing}
use Rattle.rv_csr.specs.declared.privilege.Priv.{Priv}
use Rattle.rv_hart.specs.declared.record.Outcome.{Outcome}
use Rattle.rv_hart.specs.declared.hart.Hart.{Hart}
use Rattle.rv_hart.specs.declared.record.Change.{Change}
use Rattle.rv_hart.specs.declared.record.Record.{Record}
use Rattle.rv_hart.specs.declared.record.Stepped.{Stepped}
use Rattle.rv_hart.specs.declared.record.Stepped.TheVariants.{Did, Missing, Outside}
use Rattle.rv_hart.specs.Fixed.{Fixed, fixed_csrs}
use Rattle.rv_hart.specs.Machine.{script}
use Rattle.rv_hart.specs.Changes.{IsSoundWrite, csrs_after, given_by, writes_of}
use Rattle.rv_hart.specs.Effects.{seen_after}
use Rattle.rv_hart.specs.View.{known, fixed_of}
use Rattle.rv_csr.specs.State.{CsrValues, lazy_value_at}
use Rattle.rv_csr.specs.Table.{csr_key, csr_address, first_csr_key}
use Rattle.rv_hart.specs.Whole.{WholeHart, value_at, sight_of, planned, Step, step_of, file_after, hart_after}
use Rattle.rv_hart.specs.Clauses.{Has, stepped_by, first_needed, IsMachineStep, IsDone}
use Rattle.tpl_ast.specs.declared.template.Region.{Region}
use Rattle.tpl_admit.specs.Starts.{zero_elsewhere}
use Rattle.tpl_admit.specs.Solo.{is_set, AreSet}
use Rattle.given_start.specs.Knowledge.{known_at, known_of, knows_of, fixed_now, whole_of}
use Rattle.replay_check.specs.Internal.Memory.{Shows}
use Rattle.replay_check.specs.Internal.Replay.{IsSameRecord, Takes, Strays}
use Rattle.given_start.proofs.Knowledge.{wholes, known_zero, known_small, known_csr, known_between}
use Rattle.replay_check.proofs.Questions.{IsNamed, needs_named}
use Rattle.replay_check.proofs.Shown.{shown_there, shown_known, shown_unknown, shown_same, shown_after}

-- ---- what is known of the whole hart

fixed_same : (ram : List Region) (given : ℕ → Option ℕ) (m : ℕ → ℕ) (at : ℕ → Seen) (h : Hart) → Shows ram given m at → fixed_of h at ≡ fixed_now ram h
fixed_same ram given m at h s =
    ap (λ (there : ℕ → Bool). let f : Fixed = record { pc = h.pc; privilege = h.privilege; mstatus = h.csrs.mstatus; medeleg = h.csrs.medeleg; satp = h.csrs.satp; number = h.csrs.hart; ram = there } in f)
    (fun_ext (shown_there ram given m at s))

zero_known : (h : Hart) → slice_index_or h.regs 0 None ≡ Some 0
zero_known h = get_or_from_slice_get h.regs 0 (Some 0) None h.zero

some_value : (o p : Option ℕ) (v : ℕ) → o ≡ p → p ≡ Some v → (unwrap_or o 0 ≡ v) × (is_some o ≡ true)
some_value o p v same is = let e : o ≡ Some v = same ∙ is in rw e (refl, refl)

no_value : (o p : Option ℕ) → o ≡ p → p ≡ None → is_some o ≡ false
no_value o p same none = let e : o ≡ None = same ∙ none in rw e refl

-- a known place has its value in the whole hart, and was given or written
settled : (ram : List Region) (given : ℕ → Option ℕ) (m : ℕ → ℕ) (at : ℕ → Seen) (h : Hart) → Shows ram given m at → length h.regs ≡ 32 → (place : Place) (v : ℕ) → known h at place ≡ Some v
    → (value_at (zero_elsewhere (known_of h)) m place ≡ v) × (is_set (knows_of h) given place ≡ true)
settled ram given m at h start size (Reg n) v e = elim (cases_eq n 0) [
  | inl none ↦
      let zero_is : slice_index_or h.regs 0 None ≡ Some v = subst (λ (k : ℕ). slice_index_or h.regs k None ≡ Some v) none e in
      let same : Some 0 ≡ Some v = sym (zero_known h) ∙ zero_is in
      rw (eq-eqb n 0 none) ((let value : 0 ≡ v = cc same in value), refl)
  | inr some ↦ rw (ne_eqb n 0 some) (elim (cases_lt n 32) [
    | inl small ↦ some_value (known_at h.regs h.csrs n) (slice_index_or h.regs n None) v (known_small h.regs h.csrs n small some) e
    | inr large ↦ (let past : slice_index_or h.regs n None ≡ None = get_or_past h.regs n None (omega (arith, large, size)) in let no : None ≡ Some v = sym past ∙ e in absurd (cc no))
  ])
]
settled ram given m at h start size (Csr addr) v e = some_value (known_at h.regs h.csrs (csr_key addr)) (known h at (Csr addr)) v (known_csr h.regs h.csrs addr) e
settled ram given m at h start size (Word addr) v e = shown_known ram given m at start (addr / 4) v e

-- a place that isn't known was neither given nor written
unsettled : (ram : List Region) (given : ℕ → Option ℕ) (m : ℕ → ℕ) (at : ℕ → Seen) (h : Hart) → Shows ram given m at → (place : Place) → IsNamed place → known h at place ≡ None
    → is_set (knows_of h) given place ≡ false
unsettled ram given m at h start (Reg n) named e = elim (cases_eq n 0) [
  | inl none ↦
      (let zero_is : slice_index_or h.regs 0 None ≡ None = subst (λ (k : ℕ). slice_index_or h.regs k None ≡ None) none e in
      let no : Some 0 ≡ None = sym (zero_known h) ∙ zero_is in
      absurd (cc no))
  | inr some ↦ rw (ne_eqb n 0 some) (elim (cases_lt n 32) [
    | inl small ↦ no_value (known_at h.regs h.csrs n) (slice_index_or h.regs n None) (known_small h.regs h.csrs n small some) e
    | inr large ↦ absurd (omega (arith, named, large))
  ])
]
unsettled ram given m at h start (Csr addr) named e = no_value (known_at h.regs h.csrs (csr_key addr)) (known h at (Csr addr)) (known_csr h.regs h.csrs addr) e
unsettled ram given m at h start (Word addr) named e = shown_unknown ram given m at start (addr / 4) e

has : (ram : List Region) (given : ℕ → Option ℕ) (m : ℕ → ℕ) (at : ℕ → Seen) (h : Hart) → Shows ram given m at → length h.regs ≡ 32 → Has (fixed_of h at) (known h at) (whole_of ram h) m
has ram given m at h start size = record {
  fixed = sym (fixed_same ram given m at h start);
  values = λ place v e. (settled ram given m at h start size place v e).0;
}

-- ---- the answer of a step

abbrev log_of : WholeHart → (ℕ → ℕ) → List Entry
log_of h m = asked_of (script h.fixed) (sight_of h.file m)

all_known : (known : Known) (log : List Entry) → first_missing (by_known known) log ≡ None → (place : Place) → HasItem (map (λ (e : Entry). place_of e.question) log) place → (v : ℕ) × (known place ≡ Some v)
all_known known [] none place at = absurd at
all_known known (e ∷ log) none place at = go (known (place_of e.question)) refl (all_known known log) none at
  where
    go : (o : Option ℕ) → known (place_of e.question) ≡ o
        → (first_missing (by_known known) log ≡ None → (p : Place) → HasItem (map (λ (d : Entry). place_of d.question) log) p → (v : ℕ) × (known p ≡ Some v))
        → or_next o (place_of e.question) (first_missing (by_known known) log) ≡ None → HasItem (map (λ (d : Entry). place_of d.question) (e ∷ log)) place → (v : ℕ) × (known place ≡ Some v)
    go None is ih none at = absurd (cc none)
    go (Some v) is ih none (inl here) = (v, ap known (sym here) ∙ is)
    go (Some v) is ih none (inr there) = ih none place there

one_missing : (known : Known) (log : List Entry) (place : Place) → first_missing (by_known known) log ≡ Some place → HasItem (map (λ (e : Entry). place_of e.question) log) place × (known place ≡ None)
one_missing known [] place e = absurd (cc e)
one_missing known (x ∷ log) place e = go (known (place_of x.question)) refl (one_missing known log place) e
  where
    go : (o : Option ℕ) → known (place_of x.question) ≡ o
        → (first_missing (by_known known) log ≡ Some place → HasItem (map (λ (d : Entry). place_of d.question) log) place × (known place ≡ None))
        → or_next o (place_of x.question) (first_missing (by_known known) log) ≡ Some place → HasItem (map (λ (d : Entry). place_of d.question) (x ∷ log)) place × (known place ≡ None)
    go None is ih e = let same : place_of x.question ≡ place = cc e in (inl same, ap known (sym same) ∙ is)
    go (Some v) is ih e = let later = ih e in (inr later.0, later.1)

stepped_did : (missing : Option Place) (o : Option Step) (r : Record) → Did r ≡ stepped_by missing o → (missing ≡ None) × (s : Step) × (o ≡ Some s) × (s.did ≡ r)
stepped_did (Some place) o r e = absurd (cc e)
stepped_did None None r e = absurd (cc e)
stepped_did None (Some s) r e = let same : r ≡ s.did = cc e in (refl, s, refl, sym same)

stepped_missing : (missing : Option Place) (o : Option Step) (place : Place) → Missing place ≡ stepped_by missing o → missing ≡ Some place
stepped_missing (Some p) o place e = let same : place ≡ p = cc e in ap (λ (q : Place). Some q) (sym same)
stepped_missing None None place e = absurd (cc e)
stepped_missing None (Some s) place e = absurd (cc e)

stepped_outside : (missing : Option Place) (o : Option Step) → Outside ≡ stepped_by missing o → (missing ≡ None) × (o ≡ None)
stepped_outside (Some p) o e = absurd (cc e)
stepped_outside None None e = (refl, refl)
stepped_outside None (Some s) e = absurd (cc e)

-- all that the step needs was given or written
are_set : (ram : List Region) (given : ℕ → Option ℕ) (m : ℕ → ℕ) (at : ℕ → Seen) (h : Hart) → Shows ram given m at → length h.regs ≡ 32 → first_needed (known h at) (whole_of ram h) m ≡ None
    → AreSet given (knows_of h) (whole_of ram h) m
are_set ram given m at h start size none place item =
    let k = all_known (known h at) (log_of (whole_of ram h) m) none place item in
    (settled ram given m at h start size place k.0 k.1).1

abbrev Machine : (ℕ → Seen) → Hart → Stepped → Type 0
Machine at h result = IsMachineStep (fixed_of h at) (known h at) result

answer : (ram : List Region) (given : ℕ → Option ℕ) (m : ℕ → ℕ) (at : ℕ → Seen) (h : Hart) (result : Stepped) → Shows ram given m at → length h.regs ≡ 32 → Machine at h result
    → result ≡ stepped_by (first_needed (known h at) (whole_of ram h) m) (step_of (whole_of ram h) m)
answer ram given m at h result start size machine = machine (whole_of ram h) m (has ram given m at h start size)

-- ---- what is known after a step

-- a place has the value that was written, or else the old one, and is known where it was written or known
abbrev Follows : Option ℕ → Option ℕ → Option ℕ → Type 0
Follows new write old = (unwrap_or new 0 ≡ unwrap_or write (unwrap_or old 0)) × (is_some new ≡ (is_some write || is_some old))

from_places : (new write old : Option ℕ) → is_some new ≡ (is_some write || is_some old) → ((v : ℕ) → new ≡ Some v → unwrap_or write (unwrap_or old 0) ≡ v) → Follows new write old
from_places (Some v) write old places value = (sym (value v refl), places)
from_places None None None places value = (refl, refl)
from_places None None (Some u) places value = absurd (cc places)
from_places None (Some u) old places value = absurd (cc places)

no_place : (new write old : Option ℕ) → new ≡ None → write ≡ None → old ≡ None → Follows new write old
no_place new write old n w o = rw (n, w, o) (refl, refl)

-- a step is planned of a change
pub record IsPlanned (f : Fixed) (s : Step) : Type 0 where
  pub change : Change
  pub writes : s.writes ≡ writes_of f change
  pub rd : s.did.rd ≡ change.rd

planned_is : (f : Fixed) (xs : List Access) (o : Option Change) (s : Step) → planned f xs o ≡ Some s → IsPlanned f s
planned_is f xs None s e = absurd (cc e)
planned_is f xs (Some c) s e = let same = some_step e in record { change = c; writes = ap (λ (t : Step). t.writes) (sym same); rd = ap (λ (t : Step). t.did.rd) (sym same) }
  where
    some_step : {t : Step} → Some t ≡ Some s → t ≡ s
    some_step e = cc

-- a key that is neither a register's nor a CSR's is not written
nothing_written : (f : Fixed) (c : Change) (key : ℕ) → IsSoundWrite c.rd → key < first_csr_key → ((n : ℕ) → 0 < n → n < 32 → n ≢ key) → writes_of f c key ≡ None
nothing_written f c key sound small apart =
    let none : csr_address key ≡ 0 = omega (arith, small) in
    ap (λ (a : ℕ). given_by c.rd (lazy_value_at (csrs_after f.privilege f.pc c.control (fixed_csrs f)) a) key) none ∙ go c.rd sound
  where
    go : (rd : Option (ℕ × ℕ)) → IsSoundWrite rd → given_by rd None key ≡ None
    go None sound = refl
    go (Some w) sound = rw (ne_eqb w.0 key (apart w.0 (sound w refl).0 (sound w refl).1)) refl

abbrev Done : (ℕ → Seen) → (ℕ → Seen) → Hart → Hart → Record → Type 0
Done at seen h new did = IsDone (fixed_of h at) (known h at) did (fixed_of new seen) (known new seen)

key_follows : (ram : List Region) (given : ℕ → Option ℕ) (m : ℕ → ℕ) (at seen : ℕ → Seen) (h new : Hart) (did : Record) → Shows ram given m at → length h.regs ≡ 32 → (d : Done at seen h new did) → IsSoundWrite did.rd
    → (key : ℕ) → Follows (known_of new key) (d.step.writes key) (known_of h key)
key_follows ram given m at seen h new did start size d sound key = elim (cases_lt key 32) [
  | inl small ↦ elim (cases_eq key 0) [
    | inl none ↦
        let apart : (n : ℕ) → 0 < n → n < 32 → n ≢ key = λ n some below same. absurd (omega (arith, some, same, none)) in
        no_place _ _ _ (zero_key new.regs new.csrs none) (unwritten (omega (arith, small)) apart) (zero_key h.regs h.csrs none)
    | inr some ↦ of_register small some
  ]
  | inr large ↦ elim (cases_lt key first_csr_key) [
    | inl below ↦
        let apart : (n : ℕ) → 0 < n → n < 32 → n ≢ key = λ n some small same. absurd (omega (arith, small, same, large)) in
        no_place _ _ _ (known_between new.regs new.csrs key large below) (unwritten below apart) (known_between h.regs h.csrs key large below)
    | inr above ↦ (let is : csr_key (csr_address key) ≡ key = omega (arith, above) in subst (λ (k : ℕ). Follows (known_of new k) (d.step.writes k) (known_of h k)) is (of_csr (csr_address key)))
  ]
]
  where
    made : (step_of (whole_of ram h) m ≡ Some d.step) × Has (fixed_of new seen) (known new seen) (hart_after d.step (whole_of ram h)) (memory_after did.accesses m)
    made = d.wholes (whole_of ram h) m (has ram given m at h start size)

    zero_key : (regs : List (Option ℕ)) (csrs : CsrValues) → key ≡ 0 → known_at regs csrs key ≡ None
    zero_key regs csrs none = ap (known_at regs csrs) none ∙ known_zero regs csrs

    plan : IsPlanned (fixed_now ram h) d.step
    plan = planned_is (fixed_now ram h) _ _ d.step made.0

    unwritten : key < first_csr_key → ((n : ℕ) → 0 < n → n < 32 → n ≢ key) → d.step.writes key ≡ None
    unwritten small apart =
        let rd : did.rd ≡ plan.change.rd = ap (λ (r : Record). r.rd) (sym d.did) ∙ plan.rd in
        ap (λ (w : ℕ → Option ℕ). w key) plan.writes ∙ nothing_written (fixed_now ram h) plan.change key (subst IsSoundWrite rd sound) small apart

    of_register : key < 32 → key ≢ 0 → Follows (known_of new key) (d.step.writes key) (known_of h key)
    of_register small some =
        let places : is_some (known new seen (Reg key)) ≡ (is_some (d.step.writes key) || is_some (known h at (Reg key))) = rw (lt-ltb key 32 small) at (d.places (Reg key)) in
        let now = known_small new.regs new.csrs key small some in
        let old = known_small h.regs h.csrs key small some in
        from_places _ _ _
        (ap (λ (o : Option ℕ). is_some o) now ∙ places ∙ ap (λ (o : Option ℕ). is_some (d.step.writes key) || is_some o) (sym old))
        (λ v e. rw (ne_eqb key 0 some) at (made.1.values (Reg key) v (sym now ∙ e)))

    of_csr : (addr : ℕ) → Follows (known_of new (csr_key addr)) (d.step.writes (csr_key addr)) (known_of h (csr_key addr))
    of_csr addr =
        let now = known_csr new.regs new.csrs addr in
        let old = known_csr h.regs h.csrs addr in
        from_places _ _ _
        (ap (λ (o : Option ℕ). is_some o) now ∙ d.places (Csr addr) ∙ ap (λ (o : Option ℕ). is_some (d.step.writes (csr_key addr)) || is_some o) (sym old))
        (λ v e. made.1.values (Csr addr) v (sym now ∙ e))

pub takes : (ram : List Region) (given : ℕ → Option ℕ) (m : ℕ → ℕ) (at seen : ℕ → Seen) (h new : Hart) (did r : Record) → Shows ram given m at → length h.regs ≡ 32 → Machine at h (Did did) → Done at seen h new did
    → IsSoundWrite did.rd → ((n : ℕ) → seen n ≡ seen_after did.accesses at n) → did ≡ r → Takes ram given m h new r
takes ram given m at seen h new did r start size machine d sound stored same =
    let needed = stepped_did _ _ did (answer ram given m at h (Did did) start size machine) in
    let after : Shows ram given (memory_after did.accesses m) seen = shown_same ram given (memory_after did.accesses m) (seen_after did.accesses at) seen stored (shown_after ram given m at did.accesses start) in
    let each = key_follows ram given m at seen h new did start size d sound in
    record {
      step = d.step;
      right = record { set = are_set ram given m at h start size needed.0; step = (d.wholes (whole_of ram h) m (has ram given m at h start size)).0; did = d.did ∙ same };
      hart = wholes (fixed_now ram new) d.step.fixed (zero_elsewhere (known_of new)) (file_after d.step.writes (zero_elsewhere (known_of h)))
          (sym (d.fixed ∙ fixed_same ram given (memory_after did.accesses m) seen new after)) (fun_ext (λ key. (each key).0));
      knows = fun_ext (λ key. (each key).1);
    }

pub strays_other : (ram : List Region) (given : ℕ → Option ℕ) (m : ℕ → ℕ) (at : ℕ → Seen) (h : Hart) (did r : Record) → Shows ram given m at → length h.regs ≡ 32 → Machine at h (Did did) → (did ≢ r) → Strays ram given m h r 1
strays_other ram given m at h did r start size machine other =
    let d = stepped_did _ _ did (answer ram given m at h (Did did) start size machine) in
    inr (inr (refl, are_set ram given m at h start size d.0, d.1, d.2, λ same. other (sym d.3 ∙ same)))

pub strays_missing : (ram : List Region) (given : ℕ → Option ℕ) (m : ℕ → ℕ) (at : ℕ → Seen) (h : Hart) (place : Place) (r : Record) → Shows ram given m at → length h.regs ≡ 32 → Machine at h (Missing place) → Strays ram given m h r 2
strays_missing ram given m at h place r start size machine =
    let missing = stepped_missing _ _ place (answer ram given m at h (Missing place) start size machine) in
    let one = one_missing (known h at) (log_of (whole_of ram h) m) place missing in
    let named : IsNamed place = needs_named (whole_of ram h) m place one.0 in
    inl (refl, place, one.0, unsettled ram given m at h start place named one.1)

pub strays_outside : (ram : List Region) (given : ℕ → Option ℕ) (m : ℕ → ℕ) (at : ℕ → Seen) (h : Hart) (r : Record) → Shows ram given m at → length h.regs ≡ 32 → Machine at h Outside → Strays ram given m h r 3
strays_outside ram given m at h r start size machine =
    let o = stepped_outside _ _ (answer ram given m at h Outside start size machine) in
    inr (inl (refl, are_set ram given m at h start size o.0, o.1))

-- ---- the numbers of kinds

pub kind_told : (P : ℕ → Type 0) (n kind : ℕ) → (let was : Option ℕ = Some n in was ≡ Some kind) → P n → P kind
kind_told P n kind told p = let same : n ≡ kind = cc in subst P same p

-- ---- records field by field

abbrev all_of : ℕ → Priv → ℕ → Outcome → Option (ℕ × ℕ) → List Access → ℕ → Record
all_of pc privilege word outcome rd accesses next_pc = record { pc = pc; privilege = privilege; word = word; outcome = outcome; rd = rd; accesses = accesses; next_pc = next_pc }

pub same_record : (a b : Record) → IsSameRecord a b → a ≡ b
same_record a b s =
    ap (λ (n : ℕ). all_of n a.privilege a.word a.outcome a.rd a.accesses a.next_pc) s.pc
    ∙ ap (λ (p : Priv). all_of b.pc p a.word a.outcome a.rd a.accesses a.next_pc) s.privilege
    ∙ ap (λ (n : ℕ). all_of b.pc b.privilege n a.outcome a.rd a.accesses a.next_pc) s.word
    ∙ ap (λ (o : Outcome). all_of b.pc b.privilege b.word o a.rd a.accesses a.next_pc) s.change.outcome
    ∙ ap (λ (w : Option (ℕ × ℕ)). all_of b.pc b.privilege b.word b.outcome w a.accesses a.next_pc) s.change.rd
    ∙ ap (λ (xs : List Access). all_of b.pc b.privilege b.word b.outcome b.rd xs a.next_pc) s.accesses
    ∙ ap (λ (n : ℕ). all_of b.pc b.privilege b.word b.outcome b.rd b.accesses n) s.change.next_pc

pub record_same : (a b : Record) → a ≡ b → IsSameRecord a b
record_same a b e = record {
  pc = ap (λ (r : Record). r.pc) e;
  privilege = ap (λ (r : Record). r.privilege) e;
  word = ap (λ (r : Record). r.word) e;
  change = record { outcome = ap (λ (r : Record). r.outcome) e; rd = ap (λ (r : Record). r.rd) e; next_pc = ap (λ (r : Record). r.next_pc) e };
  accesses = ap (λ (r : Record). r.accesses) e;
}
