-- A step of one of the harts, and the whole systems for which they stand.
use Rattle.std.proofs.Common.{◌≡◌, ◌≢◌, ℕ, ◌*◌, ◌/◌, ◌^◌, ◌<◌, ◌≤◌, Bool, true, false, leb, ltb, ◌&&◌, ◌||◌, List, [], ◌∷◌, length, Option, Some, None, if◌then◌else◌, refl, sym, ap, ◌∙◌, subst, inl, inr, arith}
use Rattle.std.specs.Prelude.{slice_index_or, slice_set, nat_eq}
use Rattle.std.specs.List.{find, list_any}
use Rattle.std.specs.Option.{is_some}
use Rattle.std.proofs.Math.Path.{fun_ext}
use Rattle.std.proofs.lemmas.Bool.{cases_eq, cases_lt, eqb-true, eq-eqb, ne_eqb, le-leb, lt-ltb, or_cases}
use Rattle.std.proofs.lemmas.List.{get_or-set_same, get_or-set_other, length-set}
use Rattle.rv_mem.specs.declared.words.Seen.{Seen}
use Rattle.rv_mem.specs.declared.words.Seen.TheVariants.{Known as KnownWord, Untouched, Vacant}
use Rattle.rv_mem.specs.declared.full.Block.{Block}
use Rattle.rv_mem.specs.declared.full.FullMem.{FullMem}
use Rattle.rv_mem.specs.Full.{holds, found, full_at}
use Rattle.rv_mem.specs.Seen.{is_there, known_word}
use Rattle.rv_script.specs.declared.access.Access.{Access}
use Rattle.rv_script.specs.declared.place.Place.{Place}
use Rattle.rv_script.specs.declared.place.Place.TheVariants.{Reg, Csr, Word}
use Rattle.rv_script.specs.Folds.{Known}
use Rattle.rv_script.specs.Memory.{memory_after}
use Rattle.rv_csr.specs.declared.table.Register.TheVariants.{Lazy}
use Rattle.rv_csr.specs.State.{lazy_value_at}
use Rattle.rv_csr.specs.Table.{address_of, csr_key, lazy_csrs}
use Rattle.rv_hart.specs.declared.hart.Hart.{Hart}
use Rattle.rv_hart.specs.declared.record.Record.{Record}
use Rattle.rv_hart.specs.declared.record.Stepped.{Stepped}
use Rattle.rv_hart.specs.declared.record.Stepped.TheVariants.{Did, Missing, Outside}
use Rattle.rv_hart.specs.Asked.{is_lazy}
use Rattle.rv_hart.specs.Clauses.{Has, is_written, CanBeGiven, first_needed, stepped_by, IsAfter, IsDone, IsKept, IsMachineStep}
use Rattle.rv_hart.specs.Effects.{seen_word_after, seen_accessed, seen_after}
use Rattle.rv_hart.specs.Fixed.{Fixed}
use Rattle.rv_hart.specs.View.{known, fixed_of}
use Rattle.rv_hart.specs.Whole.{WholeHart, Step, hart_after, value_at}
use Rattle.tpl_ast.specs.States.{is_key}
use Rattle.tpl_admit.specs.System.{System}
use Rattle.given_start.specs.Knowledge.{known_of, knows_of}
use Rattle.given_start.proofs.Knowledge.{known_small, known_csr}
use Rattle.given_start.proofs.Lazy.{lazy_of}
use Rattle.rv_system.specs.Runs.{moved_by, next_of, record_in}
use Rattle.rv_system.specs.Systems.{AreAllKnown, IsWholeOf}

-- ---- places and keys

-- the place of a key, and what is known of it
pub record IsPlaceOf (key : ℕ) : Type 0 where
  pub place : Place
  pub same : (h : Hart) (at : ℕ → Seen) → known_of h key ≡ known h at place

pub place_of_key : (key : ℕ) → is_key key ≡ true → IsPlaceOf key
place_of_key key is = elim (cases_lt key 32) [
  | inl small ↦ elim (cases_eq key 0) [
    | inl none ↦ (let no : is_key 0 ≡ true = subst (λ (n : ℕ). is_key n ≡ true) none is in absurd (cc no))
    | inr some ↦ record { place = Reg key; same = λ h at. known_small h.regs h.csrs key small some }
  ]
  | inr large ↦
      let named = lazy_of key large is in
      let addr : ℕ = address_of (Lazy named.lazy) in
      record {
        place = Csr addr;
        same = λ h at. ap (λ (n : ℕ). known_of h n) named.is ∙ known_csr h.regs h.csrs addr;
      }
]

register_key : (n : ℕ) → 1 ≤ n → n < 32 → is_key n ≡ true
register_key n some small = rw (le-leb 1 n some, lt-ltb n 32 small) refl

or_later : (b c : Bool) → c ≡ true → (b || c) ≡ true
or_later true c is = refl
or_later false c is = is

csr_keys : (addr : ℕ) (addrs : List ℕ) → list_any (λ a. nat_eq addr a) addrs ≡ true → list_any (λ a. nat_eq (csr_key addr) (csr_key a)) addrs ≡ true
csr_keys addr [] is = absurd (cc is)
csr_keys addr (a ∷ addrs) is = elim (or_cases (nat_eq addr a) (list_any (λ (b : ℕ). nat_eq addr b) addrs) is) [
  | inl here ↦
      let same : csr_key addr ≡ csr_key a = ap (λ (n : ℕ). csr_key n) (eqb-true addr a here) in
      rw (eq-eqb (csr_key addr) (csr_key a) same) refl
  | inr later ↦ or_later (nat_eq (csr_key addr) (csr_key a)) (list_any (λ (b : ℕ). nat_eq (csr_key addr) (csr_key b)) addrs) (csr_keys addr addrs later)
]

lazy_key : (addr : ℕ) → is_lazy addr ≡ true → is_key (csr_key addr) ≡ true
lazy_key addr is = or_later (leb 1 (csr_key addr) && ltb (csr_key addr) 32) (list_any (λ (a : ℕ). nat_eq (csr_key addr) (csr_key a)) lazy_csrs) (csr_keys addr lazy_csrs is)

-- ---- nothing is missing

no_value : (o p : Option ℕ) → o ≡ p → is_some o ≡ true → p ≡ None → ⊥
no_value o p same some none = let no : is_some o ≡ false = ap (λ (q : Option ℕ). is_some q) (same ∙ none) in let e : true ≡ false = sym some ∙ no in absurd (cc e)

word_is : (m : FullMem) (n : ℕ) → is_there (full_at m n) ≡ true → known_word (full_at m n) ≡ None → ⊥
word_is m n there none = go (find (λ (b : Block). holds b n) m.blocks.items) there none
  where
    go : (o : Option Block) → is_there (found n o) ≡ true → known_word (found n o) ≡ None → ⊥
    go None there none = absurd (cc there)
    go (Some b) there none = absurd (cc none)

lacks_none : (h : Hart) (m : FullMem) → ((key : ℕ) → is_key key ≡ true → knows_of h key ≡ true) → (place : Place) → CanBeGiven (λ n. is_there (full_at m n)) place → known h (full_at m) place ≡ None → ⊥
lacks_none h m all (Reg n) given none =
    let some : n ≢ 0 = λ same. absurd (omega (arith, same, given.0)) in
    no_value (known_of h n) (slice_index_or h.regs n None) (known_small h.regs h.csrs n given.1 some) (all n (register_key n given.0 given.1)) none
lacks_none h m all (Csr addr) given none = no_value (known_of h (csr_key addr)) (lazy_value_at h.csrs addr) (known_csr h.regs h.csrs addr) (all (csr_key addr) (lazy_key addr given)) none
lacks_none h m all (Word addr) given none = word_is m (addr / 4) (later (ltb addr (2 ^ 32)) (is_there (full_at m (addr / 4))) given.1) none
  where
    later : (b c : Bool) → (b && c) ≡ true → c ≡ true
    later true c is = is
    later false c is = absurd (cc is)

pub none_missing : (harts : List Hart) (k : ℕ) (h : Hart) (m : FullMem) (place : Place) → AreAllKnown harts → k < length harts → h ≡ slice_index_or harts k h
    → CanBeGiven (λ n. is_there (full_at m n)) place × (known h (full_at m) place ≡ None) → ⊥
none_missing harts k h m place all within is given =
    lacks_none h m (λ key place_key. subst (λ (g : Hart). knows_of g key ≡ true) (sym is) (all k key h within place_key)) place given.0 given.1

-- ---- what was known stays known

stays : (q : Stepped) (f new_f : Fixed) (old new : Known) → IsAfter f old q new_f new → (place : Place) → is_some (old place) ≡ true → is_some (new place) ≡ true
stays (Did r) f new_f old new after place is = after.places place ∙ or_later (is_written after.step.writes place) (is_some (old place)) is
stays (Missing none) f new_f old new after place is = ap (λ (o : Option ℕ). is_some o) (after.places place) ∙ is
stays Outside f new_f old new after place is = ap (λ (o : Option ℕ). is_some o) (after.places place) ∙ is

-- a hart that did what it did, or nothing, knows all that it knew
pub all_known : (harts : List Hart) (k : ℕ) (h new : Hart) (at after : ℕ → Seen) (q : Stepped) → AreAllKnown harts → k < length harts → h ≡ slice_index_or harts k h
    → IsAfter (fixed_of h at) (known h at) q (fixed_of new after) (known new after) → AreAllKnown (slice_set harts k new)
all_known harts k h new at after q all within is did j key d inside place_key = elim (cases_eq j k) [
  | inl same ↦
      let here : slice_index_or (slice_set harts k new) j d ≡ new = ap (λ (i : ℕ). slice_index_or (slice_set harts k new) i d) same ∙ get_or-set_same harts k new d within in
      let place = place_of_key key place_key in
      let was : is_some (known h at place.place) ≡ true = ap (λ (o : Option ℕ). is_some o) (sym (place.same h at)) ∙ subst (λ (g : Hart). knows_of g key ≡ true) (sym is) (all k key h within place_key) in
      ap (λ (g : Hart). knows_of g key) here ∙ ap (λ (o : Option ℕ). is_some o) (place.same new after)
      ∙ stays q (fixed_of h at) (fixed_of new after) (known h at) (known new after) did place.place was
  | inr other ↦
      let there : slice_index_or (slice_set harts k new) j d ≡ slice_index_or harts j d = get_or-set_other harts k j new d other in
      ap (λ (g : Hart). knows_of g key) there ∙ all j key d (omega (arith, inside, length-set harts k new)) place_key
]

-- ---- whole systems

there_accessed : (x : Access) (at : ℕ → Seen) (n : ℕ) → is_there (seen_accessed x at n) ≡ is_there (at n)
there_accessed x at n = go (nat_eq n (x.addr / 4)) (at n)
  where
    go : (b : Bool) (s : Seen) → is_there (if b then seen_word_after x n s else s) ≡ is_there s
    go true (KnownWord w) = refl
    go true Untouched = refl
    go true Vacant = refl
    go false s = refl

-- RAM stays
there_after : (xs : List Access) (at : ℕ → Seen) (n : ℕ) → is_there (seen_after xs at n) ≡ is_there (at n)
there_after [] at n = refl
there_after (x ∷ xs) at n = there_after xs (seen_accessed x at) n ∙ there_accessed x at n

fixed_same : (h : Hart) (at new : ℕ → Seen) → ((n : ℕ) → is_there (new n) ≡ is_there (at n)) → fixed_of h new ≡ fixed_of h at
fixed_same h at new same =
    ap (λ (there : ℕ → Bool). let f : Fixed = record { pc = h.pc; privilege = h.privilege; mstatus = h.csrs.mstatus; medeleg = h.csrs.medeleg; satp = h.csrs.satp; number = h.csrs.hart; ram = there } in f) (fun_ext same)

known_is : (s : Seen) (v : ℕ) → known_word s ≡ Some v → s ≡ KnownWord v
known_is (KnownWord w) v e = let same : w ≡ v = cc e in ap (λ (x : ℕ). KnownWord x) same
known_is Untouched v e = absurd (cc e)
known_is Vacant v e = absurd (cc e)

-- a hart that did nothing, over a memory after a step of another
other_values : (h : Hart) (w : WholeHart) (at new : ℕ → Seen) (words mem : ℕ → ℕ) → Has (fixed_of h at) (known h at) w words → ((n v : ℕ) → new n ≡ KnownWord v → mem n ≡ v)
    → (place : Place) (v : ℕ) → known h new place ≡ Some v → value_at w.file mem place ≡ v
other_values h w at new words mem has told (Reg n) v e = has.values (Reg n) v e
other_values h w at new words mem has told (Csr addr) v e = has.values (Csr addr) v e
other_values h w at new words mem has told (Word addr) v e = told (addr / 4) v (known_is (new (addr / 4)) v e)

other_has : (h : Hart) (w : WholeHart) (at new : ℕ → Seen) (words mem : ℕ → ℕ) → Has (fixed_of h at) (known h at) w words → ((n : ℕ) → is_there (new n) ≡ is_there (at n))
    → ((n v : ℕ) → new n ≡ KnownWord v → mem n ≡ v) → Has (fixed_of h new) (known h new) w mem
other_has h w at new words mem has there told = record { fixed = has.fixed ∙ sym (fixed_same h at new there); values = other_values h w at new words mem has told }

-- what is known of memory is told by any hart
words_by : (h : Hart) (w : WholeHart) (at : ℕ → Seen) (words : ℕ → ℕ) → Has (fixed_of h at) (known h at) w words → (n v : ℕ) → at n ≡ KnownWord v → words n ≡ v
words_by h w at words has n v is =
    let back : n * 4 / 4 ≡ n = omega arith in
    let told : known_word (at (n * 4 / 4)) ≡ Some v = ap (λ (i : ℕ). known_word (at i)) back ∙ ap (λ (s : Seen). known_word s) is in
    ap (λ (i : ℕ). words i) (sym back) ∙ has.values (Word (n * 4)) v told

-- one hart and the memory changed
pub record IsChanged (harts : List Hart) (k : ℕ) (new : Hart) (at after : ℕ → Seen) : Type 0 where
  pub within : k < length harts
  pub there : (n : ℕ) → is_there (after n) ≡ is_there (at n)

stand_changed : (harts : List Hart) (k : ℕ) (new : Hart) (at after : ℕ → Seen) (sys : System) (w : WholeHart) (mem : ℕ → ℕ) → IsChanged harts k new at after → IsWholeOf harts at sys
    → Has (fixed_of new after) (known new after) w mem → IsWholeOf (slice_set harts k new) after (record { harts = λ j. if nat_eq j k then w else sys.harts j; memory = mem })
stand_changed harts k new at after sys w mem changed stand has = record {
  each = λ j d within. elim (cases_eq j k) [
    | inl same ↦
        let here : slice_index_or (slice_set harts k new) j d ≡ new = ap (λ (i : ℕ). slice_index_or (slice_set harts k new) i d) same ∙ get_or-set_same harts k new d changed.within in
        rw (eq-eqb j k same) (subst (λ (h : Hart). Has (fixed_of h after) (known h after) w mem) (sym here) has)
    | inr other ↦
        let there : slice_index_or (slice_set harts k new) j d ≡ slice_index_or harts j d = get_or-set_other harts k j new d other in
        let inside : j < length harts = omega (arith, within, length-set harts k new) in
        rw (ne_eqb j k other) (subst (λ (h : Hart). Has (fixed_of h after) (known h after) (sys.harts j) mem) (sym there)
        (other_has (slice_index_or harts j d) (sys.harts j) at after sys.memory mem (stand.each j d inside) changed.there (words_by new w after mem has)))
  ];
  words = words_by new w after mem has;
}

has_at : (harts : List Hart) (k : ℕ) (h : Hart) (at : ℕ → Seen) (sys : System) → k < length harts → h ≡ slice_index_or harts k h → IsWholeOf harts at sys → Has (fixed_of h at) (known h at) (sys.harts k) sys.memory
has_at harts k h at sys within is stand = subst (λ (g : Hart). Has (fixed_of g at) (known g at) (sys.harts k) sys.memory) (sym is) (stand.each k h within)

-- after a step
pub did_next : (harts : List Hart) (k : ℕ) (h new : Hart) (at after : ℕ → Seen) (r : Record) (sys : System) → k < length harts → h ≡ slice_index_or harts k h → IsWholeOf harts at sys
    → IsDone (fixed_of h at) (known h at) r (fixed_of new after) (known new after) → (s : Step) × (next_of k sys ≡ Some s) × (s.did ≡ r)
did_next harts k h new at after r sys within is stand done = (done.step, (done.wholes (sys.harts k) sys.memory (has_at harts k h at sys within is stand)).0, done.did)

pub did_told : (harts : List Hart) (k : ℕ) (h new : Hart) (at after : ℕ → Seen) (r : Record) (sys : System) → k < length harts → h ≡ slice_index_or harts k h → IsWholeOf harts at sys
    → IsDone (fixed_of h at) (known h at) r (fixed_of new after) (known new after) → Some r ≡ record_in (next_of k sys)
did_told harts k h new at after r sys within is stand done =
    let next = did_next harts k h new at after r sys within is stand done in
    sym (ap (λ (o : Option Step). record_in o) next.1 ∙ ap (λ (q : Record). Some q) next.2)

pub did_stand : (harts : List Hart) (k : ℕ) (h new : Hart) (at after : ℕ → Seen) (r : Record) (sys : System) → k < length harts → h ≡ slice_index_or harts k h → IsWholeOf harts at sys
    → IsDone (fixed_of h at) (known h at) r (fixed_of new after) (known new after) → ((n : ℕ) → after n ≡ seen_after r.accesses at n) → IsWholeOf (slice_set harts k new) after (moved_by (next_of k sys) k sys)
did_stand harts k h new at after r sys within is stand done memory =
    let took = done.wholes (sys.harts k) sys.memory (has_at harts k h at sys within is stand) in
    let there : (n : ℕ) → is_there (after n) ≡ is_there (at n) = λ n. ap (λ (s : Seen). is_there s) (memory n) ∙ there_after r.accesses at n in
    let has : Has (fixed_of new after) (known new after) (hart_after done.step (sys.harts k)) (memory_after done.step.did.accesses sys.memory) =
    subst (λ (q : Record). Has (fixed_of new after) (known new after) (hart_after done.step (sys.harts k)) (memory_after q.accesses sys.memory)) (sym done.did) took.1 in
    subst (λ (o : Option Step). IsWholeOf (slice_set harts k new) after (moved_by o k sys)) (sym took.0)
    (stand_changed harts k new at after sys (hart_after done.step (sys.harts k)) (memory_after done.step.did.accesses sys.memory) (record { within = within; there = there }) stand has)

-- where there is no step

no_step : (o : Option Place) (s : Option Step) → Outside ≡ stepped_by o s → s ≡ None
no_step (Some place) s e = absurd (cc e)
no_step None (Some s) e = absurd (cc e)
no_step None None e = refl

pub outside_next : (harts : List Hart) (k : ℕ) (h : Hart) (at : ℕ → Seen) (sys : System) → k < length harts → h ≡ slice_index_or harts k h → IsWholeOf harts at sys
    → IsMachineStep (fixed_of h at) (known h at) Outside → next_of k sys ≡ None
outside_next harts k h at sys within is stand machine =
    no_step (first_needed (known h at) (sys.harts k) sys.memory) (next_of k sys) (machine (sys.harts k) sys.memory (has_at harts k h at sys within is stand))

pub outside_told : (harts : List Hart) (k : ℕ) (h : Hart) (at : ℕ → Seen) (sys : System) → k < length harts → h ≡ slice_index_or harts k h → IsWholeOf harts at sys
    → IsMachineStep (fixed_of h at) (known h at) Outside → None ≡ record_in (next_of k sys)
outside_told harts k h at sys within is stand machine = sym (ap (λ (o : Option Step). record_in o) (outside_next harts k h at sys within is stand machine))

same_harts : (sys : System) (k : ℕ) (j : ℕ) → (if nat_eq j k then sys.harts k else sys.harts j) ≡ sys.harts j
same_harts sys k j = elim (cases_eq j k) [
  | inl same ↦ rw (eq-eqb j k same) (ap (λ (i : ℕ). sys.harts i) (sym same))
  | inr other ↦ rw (ne_eqb j k other) refl
]

abbrev whole_of : (ℕ → WholeHart) → (ℕ → ℕ) → System
whole_of harts memory = record { harts = harts; memory = memory }

pub outside_stand : (harts : List Hart) (k : ℕ) (h new : Hart) (at after : ℕ → Seen) (sys : System) → k < length harts → h ≡ slice_index_or harts k h → IsWholeOf harts at sys
    → IsMachineStep (fixed_of h at) (known h at) Outside → IsKept (fixed_of h at) (known h at) (fixed_of new after) (known new after) → ((n : ℕ) → after n ≡ seen_after [] at n)
    → IsWholeOf (slice_set harts k new) after (moved_by (next_of k sys) k sys)
outside_stand harts k h new at after sys within is stand machine kept memory =
    let old = has_at harts k h at sys within is stand in
    let there : (n : ℕ) → is_there (after n) ≡ is_there (at n) = λ n. ap (λ (s : Seen). is_there s) (memory n) in
    let has : Has (fixed_of new after) (known new after) (sys.harts k) sys.memory = record { fixed = old.fixed ∙ sym kept.fixed; values = λ place v e. old.values place v (sym (kept.places place) ∙ e) } in
    subst (λ (o : Option Step). IsWholeOf (slice_set harts k new) after (moved_by o k sys)) (sym (outside_next harts k h at sys within is stand machine))
    (subst (λ (hs : ℕ → WholeHart). IsWholeOf (slice_set harts k new) after (whole_of hs sys.memory)) (fun_ext (same_harts sys k))
    (stand_changed harts k new at after sys (sys.harts k) sys.memory (record { within = within; there = there }) stand has))
