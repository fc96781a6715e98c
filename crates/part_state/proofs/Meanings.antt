-- The changes of wholes are those of what they mean.
use Rattle.std.proofs.Common.{◌≡◌, ℕ, ◌/◌, ◌^◌, ◌<◌, Bool, true, false, eqb, List, [], ◌∷◌, ◌++◌, length, length-set, set, get_or, Option, Some, None, refl, sym, ap, ◌∙◌, subst, inl, inr, arith}
use Rattle.std.specs.Prelude.{option_map, All, is_none}
use Rattle.std.specs.Option.{option_or}
use Rattle.std.proofs.Math.Path.{fun_ext}
use Rattle.std.proofs.lemmas.Bool.{cases_Bool, cases_eq, eqb-true, eq-eqb, ne_eqb, lt-ltb}
use Rattle.std.proofs.lemmas.Option.{same_Some}
use Rattle.std.proofs.lemmas.List.{get_or-set_same, get_or-set_other}
use Rattle.rv_mem.specs.declared.words.Seen.{Seen}
use Rattle.rv_mem.specs.declared.words.Seen.TheVariants.{Known as KnownWord, Untouched, Vacant}
use Rattle.rv_mem.specs.Seen.{known_word, is_there}
use Rattle.rv_mem.specs.Ram.{in_ram}
use Rattle.rv_script.specs.declared.access.Access.{Access}
use Rattle.rv_script.specs.Folds.{Known, Answer.Does as DoesSo, answer_on}
use Rattle.rv_script.specs.Memory.{word_after, accessed, memory_after}
use Rattle.rv_hart.specs.declared.record.Change.{Change}
use Rattle.rv_hart.specs.declared.record.Record.{Record}
use Rattle.rv_hart.specs.Changes.{csrs_after, privilege_after, fixed_after, writes_of, IsSoundWrite}
use Rattle.rv_hart.proofs.Overlays.{bare as bare_csrs, IsOver, over_control}
use Rattle.tpl_admit.proofs.Memory.{memory_after_at}
use Rattle.rv_hart.specs.Effects.{IsInWord, seen_word_after, seen_accessed, seen_after}
use Rattle.rv_hart.specs.Fixed.{Fixed}
use Rattle.rv_hart.specs.Machine.{script}
use Rattle.tpl_admit.specs.Races.{footprint_of}
use Rattle.tpl_admit.specs.System.{replaced}
use Rattle.part_machine.specs.Notes.{with_seen}
use Rattle.part_machine.proofs.Given.{given_more}
use Rattle.part_laws.specs.Partial.{Held, Partial, IsPartialTest, with_value, with_place, place_started, word_started, held_after, words_after, advanced, IsNext}
use Rattle.part_machine.specs.Whole.{Bare, Whole, given, no_hart, first_of, hart_of, records_of, fixed_in, next_of, record_in, bare_after, stepped, with_register, register_given, with_csr, csr_given, IsCsrUntouched, word_given, HasHart}
use Rattle.part_state.specs.Meaning.{value_of_key, held_in, partial_of, IsFit, IsTest, IsRegisterUntouched, IsClear}
use Rattle.rv_csr.specs.declared.table.LazyRegister.{LazyRegister}
use Rattle.rv_csr.specs.declared.table.Register.{Register}
use Rattle.rv_csr.specs.declared.table.Register.TheVariants.{Sstatus, Satp, Mstatus, Medeleg, Mhartid, Lazy}
use Rattle.rv_csr.specs.Table.{csr_key, csr_address, register_at}
use Rattle.rv_csr.specs.State.{CsrValues, lazy_value, lazy_value_at, known_in as known_register, slot_of, with_first, is_unknown, is_untouched}
use Rattle.part_state.proofs.MeaningsOfCsrs.{csr_value}
use Rattle.part_state.proofs.Keys.{high_key, same_known, register_value, value_after, fit_after}
use Rattle.part_state.proofs.Feet.{foot_more}
use Rattle.part_laws.proofs.Late.{late_place, late_word, not_given}
use Rattle.part_laws.proofs.Advance.{advance, footprint_more}

-- partials by their parts
pub record IsSamePartial (p q : Partial) : Type 0 where
  pub count : p.count ≡ q.count
  pub start : (k : ℕ) → p.start k ≡ q.start k
  pub words : (n : ℕ) → p.words n ≡ q.words n
  pub records : (k : ℕ) → p.records k ≡ q.records k
  pub harts : (k : ℕ) → p.harts k ≡ q.harts k
  pub memory : (n : ℕ) → p.memory n ≡ q.memory n

same_partial : (p q : Partial) → IsSamePartial p q → p ≡ q
same_partial p q s =
    let start : p.start ≡ q.start = fun_ext s.start in
    let words : p.words ≡ q.words = fun_ext s.words in
    let records : p.records ≡ q.records = fun_ext s.records in
    let harts : p.harts ≡ q.harts = fun_ext s.harts in
    let memory : p.memory ≡ q.memory = fun_ext s.memory in
    λ i. record { count = s.count i; start = start i; words = words i; records = records i; harts = harts i; memory = memory i }

-- one item of a list is replaced
at_each : {A B : Type 0} (f : A → B) (xs : List A) (k : ℕ) (x d : A) (y : B) → k < length xs → f x ≡ y → (j : ℕ) → f (get_or (set xs k x) j d) ≡ replaced k y (λ i. f (get_or xs i d)) j
at_each f xs k x d y l is j = elim (cases_eq j k) [
  | inl same ↦ rw (eq-eqb j k same) (ap (λ (i : ℕ). f (get_or (set xs k x) i d)) same ∙ ap f (get_or-set_same xs k x d l) ∙ is)
  | inr other ↦ rw (ne_eqb j k other) (ap f (get_or-set_other xs k j x d other))
]

-- held by the same values
held_at : (b : Bare) (at at' : ℕ → Seen) → ((n : ℕ) → is_there (at n) ≡ is_there (at' n)) → held_in b at ≡ held_in b at'
held_at b at at' same =
    let ram : (λ n. is_there (at n)) ≡ (λ n. is_there (at' n)) = fun_ext same in
    ap (λ (r : ℕ → Bool). let h : Held = record { fixed = record { pc = b.pc; privilege = b.privilege; mstatus = b.csrs.mstatus; medeleg = b.csrs.medeleg; satp = b.csrs.satp; number = b.csrs.hart; ram = r }; places = value_of_key b } in h) ram

held_values : (f : Fixed) (places places' : ℕ → Option ℕ) → ((key : ℕ) → places key ≡ places' key) → (let h : Held = record { fixed = f; places = places } in h) ≡ record { fixed = f; places = places' }
held_values f places places' same = let e : places ≡ places' = fun_ext same in ap (λ (q : ℕ → Option ℕ). let h : Held = record { fixed = f; places = q } in h) e

-- ---- a register

held_register : (n v : ℕ) (b : Bare) (at : ℕ → Seen) → IsFit b → 0 < n → n < 32 → held_in (with_register n v b) at ≡ with_place n v (held_in b at)
held_register n v b at fit some small = held_values (fixed_in b at) (value_of_key (with_register n v b)) (with_value n v (value_of_key b)) (register_value n v b fit some small)

-- the harts of the start are as the machine has them, too
pub register_partial : (k n v : ℕ) (w : Whole) → HasHart k w → IsFit (first_of k w) → IsFit (hart_of k w) → 0 < n → n < 32
    → partial_of (register_given k n v w) ≡ place_started k n v (partial_of w)
register_partial k n v w has first fit some small = same_partial (partial_of (register_given k n v w)) (place_started k n v (partial_of w)) (record {
  count = length-set w.harts k (with_register n v (hart_of k w));
  start = at_each (λ (b : Bare). held_in b w.memory) w.first k (with_register n v (first_of k w)) no_hart (with_place n v (held_in (first_of k w) w.memory)) has.first (held_register n v (first_of k w) w.memory first some small);
  words = λ i. refl;
  records = λ i. refl;
  harts = at_each (λ (b : Bare). held_in b w.memory) w.harts k (with_register n v (hart_of k w)) no_hart (with_place n v (held_in (hart_of k w) w.memory)) has.now (held_register n v (hart_of k w) w.memory fit some small);
  memory = λ i. refl;
})

-- ---- a word

word_there : (addr v : ℕ) (at : ℕ → Seen) → at (addr / 4) ≡ Untouched → (n : ℕ) → is_there (with_seen (addr / 4) (KnownWord v) at n) ≡ is_there (at n)
word_there addr v at untouched n = elim (cases_Bool (eqb n (addr / 4))) [
  | inl t ↦ rw t (sym (ap is_there (ap at (eqb-true n (addr / 4) t) ∙ untouched)))
  | inr f ↦ rw f refl
]

pub word_partial : (addr v : ℕ) (w : Whole) → w.memory (addr / 4) ≡ Untouched → partial_of (word_given addr v w) ≡ word_started (addr / 4) v (partial_of w)
word_partial addr v w untouched =
    let there : (n : ℕ) → is_there ((word_given addr v w).memory n) ≡ is_there (w.memory n) = word_there addr v w.memory untouched in
    same_partial (partial_of (word_given addr v w)) (word_started (addr / 4) v (partial_of w)) (record {
      count = refl;
      start = λ k. held_at (first_of k w) (word_given addr v w).memory w.memory there;
      words = given_more w.words (addr / 4) v;
      records = λ k. refl;
      harts = λ k. held_at (hart_of k w) (word_given addr v w).memory w.memory there;
      memory = λ i. elim (cases_Bool (eqb i (addr / 4))) [ inl t ↦ rw t refl | inr f ↦ rw f refl ];
    })

-- ---- a step

after_there : (xs : List Access) (at : ℕ → Seen) (n : ℕ) → is_there (seen_after xs at n) ≡ is_there (at n)
after_there [] at n = refl
after_there (x ∷ xs) at n = after_there xs (seen_accessed x at) n ∙ elim (cases_Bool (eqb n (x.addr / 4))) [ inl t ↦ rw t (one (at n)) | inr f ↦ rw f refl ]
  where
    one : (s : Seen) → is_there (seen_word_after x n s) ≡ is_there s
    one (KnownWord w) = refl
    one Untouched = refl
    one Vacant = refl

after_known : (xs : List Access) (at : ℕ → Seen) (n : ℕ) → known_word (seen_after xs at n) ≡ words_after xs (λ i. known_word (at i)) n
after_known [] at n = sym (same (known_word (at n)))
  where
    same : (o : Option ℕ) → option_map (λ w. w) o ≡ o
    same None = refl
    same (Some w) = refl
after_known (x ∷ xs) at n = after_known xs (seen_accessed x at) n ∙ elim (cases_Bool (eqb n (x.addr / 4))) [ inl t ↦ rw t (one (at n) t) | inr f ↦ rw f (other (at n) f) ]
  where
    one : (s : Seen) → eqb n (x.addr / 4) ≡ true → option_map (λ w. memory_after xs (λ i. w) n) (known_word (seen_word_after x n s)) ≡ option_map (λ w. memory_after xs (accessed x (λ i. w)) n) (known_word s)
    one (KnownWord w) t = ap (λ (v : ℕ). Some v) (sym (memory_after_at xs (accessed x (λ i. w)) (λ i. word_after x.role x n w) n (rw t refl)))
    one Untouched t = refl
    one Vacant t = refl

    other : (s : Seen) → eqb n (x.addr / 4) ≡ false → option_map (λ w. memory_after xs (λ i. w) n) (known_word s) ≡ option_map (λ w. memory_after xs (accessed x (λ i. w)) n) (known_word s)
    other (KnownWord w) f = ap (λ (v : ℕ). Some v) (sym (memory_after_at xs (accessed x (λ i. w)) (λ i. w) n (rw f refl)))
    other Untouched f = refl
    other Vacant f = refl

fixed_step : (b : Bare) (at : ℕ → Seen) (c : Change) → IsFit b → fixed_in (bare_after c b) at ≡ fixed_after (fixed_in b at) c
fixed_step b at c fit =
    let over : IsOver (csrs_after b.privilege b.pc c.control b.csrs) (csrs_after b.privilege b.pc c.control (bare_csrs b.csrs)) b.csrs = over_control b.privilege b.pc c.control b.csrs fit.lazy in
    λ i. record {
      pc = c.next_pc;
      privilege = privilege_after b.privilege b.csrs.mstatus b.csrs.medeleg c.control;
      mstatus = over.mstatus i;
      medeleg = over.medeleg i;
      satp = over.satp i;
      number = over.hart i;
      ram = λ n. is_there (at n);
    }

held_step : (b : Bare) (at at' : ℕ → Seen) (c : Change) → IsFit b → IsSoundWrite c.rd → ((n : ℕ) → is_there (at' n) ≡ is_there (at n)) → held_in (bare_after c b) at' ≡ held_after c (held_in b at)
held_step b at at' c fit sound there =
    held_at (bare_after c b) at' at there
    ∙ held_values (fixed_in (bare_after c b) at) (value_of_key (bare_after c b)) (λ key. option_or (writes_of (fixed_in b at) c key) (value_of_key b key)) (value_after b at c fit sound)
    ∙ ap (λ (f : Fixed). let h : Held = record { fixed = f; places = λ key. option_or (writes_of (fixed_in b at) c key) (value_of_key b key) } in h) (fixed_step b at c fit)

pub stepped_partial : (k : ℕ) (xs : List Access) (c : Change) (w : Whole) → HasHart k w → IsFit (hart_of k w) → IsSoundWrite c.rd → partial_of (stepped k xs c w) ≡ advanced k xs c (partial_of w)
stepped_partial k xs c w has fit sound =
    let s : Whole = stepped k xs c w in
    let r : Record = record_in (hart_of k w) w.memory xs c in
    let there : (n : ℕ) → is_there (s.memory n) ≡ is_there (w.memory n) = after_there xs w.memory in
    same_partial (partial_of s) (advanced k xs c (partial_of w)) (record {
      count = length-set w.harts k (bare_after c (hart_of k w));
      start = λ j. held_at (first_of j w) s.memory w.memory there;
      words = λ i. refl;
      records = at_each (λ (rs : List Record). rs) w.traces k (records_of k w ++ r ∷ []) [] (records_of k w ++ r ∷ []) has.trace refl;
      harts = λ j.
          held_at (hart_of j s) s.memory w.memory there
          ∙ at_each (λ (b : Bare). held_in b w.memory) w.harts k (bare_after c (hart_of k w)) no_hart (held_after c (held_in (hart_of k w) w.memory)) has.now
          (held_step (hart_of k w) w.memory w.memory c fit sound (λ n. refl)) j;
      memory = after_known xs w.memory;
    })

-- ---- they keep a test

-- a fact of each item, where one is replaced
each_item : {A : Type 0} (P : A → Type 0) (xs : List A) (k : ℕ) (x d : A) → k < length xs → P x → ((j : ℕ) → j < length xs → P (get_or xs j d)) → (j : ℕ) → j < length xs → P (get_or (set xs k x) j d)
each_item P xs k x d l here each j u = elim (cases_eq j k) [
  | inl same ↦ subst (λ (i : ℕ). P (get_or (set xs k x) i d)) (sym same) (subst P (sym (get_or-set_same xs k x d l)) here)
  | inr other ↦ subst P (sym (get_or-set_other xs k j x d other)) (each j u)
]

-- the same of a fact that goes by the place
each_place : {A : Type 0} (P : ℕ → A → Type 0) (xs : List A) (k : ℕ) (x d : A) → k < length xs → P k x → ((j : ℕ) → j < length xs → P j (get_or xs j d)) → (j : ℕ) → j < length xs → P j (get_or (set xs k x) j d)
each_place P xs k x d l here each j u = elim (cases_eq j k) [
  | inl same ↦ subst (λ (i : ℕ). P i (get_or (set xs k x) i d)) (sym same) (subst (P k) (sym (get_or-set_same xs k x d l)) here)
  | inr other ↦ subst (P j) (sym (get_or-set_other xs k j x d other)) (each j u)
]

-- the hart has this number
abbrev HasNumber : ℕ → Bare → Type 0
HasNumber k b = b.csrs.hart ≡ k

fit_register : (n v : ℕ) (b : Bare) → 0 < n → IsFit b → IsFit (with_register n v b)
fit_register n v b some fit = record {
  size = length-set b.regs n (Some v) ∙ fit.size;
  zero = get_or-set_other b.regs n 0 (Some v) None (λ e. absurd (omega (arith, e, some))) ∙ fit.zero;
  lazy = fit.lazy;
}

pub test_register : (k n v : ℕ) (w : Whole) → IsTest w → HasHart k w → 0 < n → n < 32 → IsRegisterUntouched k n w → IsTest (register_given k n v w)
test_register k n v w test has some small untouched =
    let first : length (register_given k n v w).first ≡ length w.first = length-set w.first k (with_register n v (first_of k w)) in
    let harts : length (register_given k n v w).harts ≡ length w.harts = length-set w.harts k (with_register n v (hart_of k w)) in
    let none : value_of_key (hart_of k w) n ≡ None = rw (lt-ltb n 32 small, ne_eqb n 0 (λ e. absurd (omega (arith, e, some)))) untouched in
    record {
      first = first ∙ test.first ∙ sym harts;
      traces = test.traces ∙ sym harts;
      fit_first = λ j l. each_item IsFit w.first k (with_register n v (first_of k w)) no_hart has.first (fit_register n v (first_of k w) some (test.fit_first k has.now))
          (λ i u. test.fit_first i (omega (arith, u, test.first))) j (omega (arith, l, harts, test.first));
      fit = λ j l. each_item IsFit w.harts k (with_register n v (hart_of k w)) no_hart has.now (fit_register n v (hart_of k w) some (test.fit k has.now)) test.fit j (omega (arith, l, harts));
      number_first = λ j l. each_place HasNumber w.first k (with_register n v (first_of k w)) no_hart has.first (test.number_first k has.now)
          (λ i u. test.number_first i (omega (arith, u, test.first))) j (omega (arith, l, harts, test.first));
      number = λ j l. each_place HasNumber w.harts k (with_register n v (hart_of k w)) no_hart has.now (test.number k has.now) test.number j (omega (arith, l, harts));
      there = test.there;
      small = test.small;
      test = subst IsPartialTest (sym (register_partial k n v w has (test.fit_first k has.now) (test.fit k has.now) some small)) (late_place (partial_of w) k n v test.test none);
      foot = test.foot;
    }

pub test_word : (addr v : ℕ) (w : Whole) → IsTest w → addr < 2 ^ 32 → v < 2 ^ 32 → w.memory (addr / 4) ≡ Untouched → IsTest (word_given addr v w)
test_word addr v w test address fits untouched = record {
  first = test.first;
  traces = test.traces;
  fit_first = test.fit_first;
  fit = test.fit;
  number_first = test.number_first;
  number = test.number;
  there = λ n. word_there addr v w.memory untouched n ∙ test.there n;
  small = λ n u e. elim (cases_eq n (addr / 4)) [
    | inl same ↦
        let is : Some v ≡ Some u = rw (eq-eqb n (addr / 4) same) at (sym (given_more w.words (addr / 4) v n) ∙ e) in
        (omega (arith, same, address), subst (λ (x : ℕ). x < 2 ^ 32) (same_Some v u is) fits)
    | inr other ↦ test.small n u (rw (ne_eqb n (addr / 4) other) at (sym (given_more w.words (addr / 4) v n) ∙ e))
  ];
  test = subst IsPartialTest (sym (word_partial addr v w untouched)) (late_word (partial_of w) (addr / 4) v test.test (ap known_word untouched));
  foot = test.foot;
}

pub test_step : (k : ℕ) (xs : List Access) (c : Change) (w : Whole) → IsTest w → HasHart k w → next_of k w ≡ DoesSo xs c → IsSoundWrite c.rd → All IsInWord xs → IsClear k w → IsTest (stepped k xs c w)
test_step k xs c w test has next sound words clear =
    let b : Bare = hart_of k w in
    let harts : length (stepped k xs c w).harts ≡ length w.harts = length-set w.harts k (bare_after c b) in
    let traces : length (stepped k xs c w).traces ≡ length w.traces = length-set w.traces k (records_of k w ++ record_in b w.memory xs c ∷ []) in
    let is : IsNext k xs c (partial_of w) = ap (λ (q : Known). answer_on q (script (fixed_in b w.memory))) (same_known b w.memory (test.fit k has.now)) ∙ next in
    record {
      first = test.first ∙ sym harts;
      traces = traces ∙ test.traces ∙ sym harts;
      fit_first = λ j l. test.fit_first j (omega (arith, l, harts));
      fit = λ j l. each_item IsFit w.harts k (bare_after c b) no_hart has.now (fit_after b c (test.fit k has.now) sound) test.fit j (omega (arith, l, harts));
      number_first = λ j l. test.number_first j (omega (arith, l, harts));
      number = λ j l. each_place HasNumber w.harts k (bare_after c b) no_hart has.now ((over_control b.privilege b.pc c.control b.csrs (test.fit k has.now).lazy).hart ∙ test.number k has.now) test.number j (omega (arith, l, harts));
      there = λ n. after_there xs w.memory n ∙ test.there n;
      small = test.small;
      test = subst IsPartialTest (sym (stepped_partial k xs c w has (test.fit k has.now) sound)) (advance (partial_of w) k xs c test.test has.now is (clear xs c next));
      foot = foot_more k xs w.feet (λ j. footprint_of (records_of j w)) (λ j. footprint_of (records_of j (stepped k xs c w))) words test.foot
          (ap (λ (rs : List Record). footprint_of rs) (get_or-set_same w.traces k (records_of k w ++ record_in b w.memory xs c ∷ []) [] has.trace) ∙ footprint_more (records_of k w) (record_in b w.memory xs c))
          (λ j ne. ap (λ (rs : List Record). footprint_of rs) (get_or-set_other w.traces k j (records_of k w ++ record_in b w.memory xs c ∷ []) [] ne));
    }

-- ---- a lazy CSR

held_csr : (addr v : ℕ) (b : Bare) (at : ℕ → Seen) → IsFit b → is_untouched b.csrs addr ≡ true → held_in (with_csr addr v b) at ≡ with_place (csr_key addr) v (held_in b at)
held_csr addr v b at fit untouched =
    held_values (fixed_in (with_csr addr v b) at) (value_of_key (with_csr addr v b)) (with_value (csr_key addr) v (value_of_key b)) (csr_value addr v b fit untouched)
    ∙ ap (λ (f : Fixed). let h : Held = record { fixed = f; places = with_value (csr_key addr) v (value_of_key b) } in h) (fixed_csr (register_at addr))
  where
    fixed_csr : (o : Option Register)
        → (let f : Fixed = record { pc = b.pc; privilege = b.privilege; mstatus = (with_first o v b.csrs).mstatus; medeleg = (with_first o v b.csrs).medeleg; satp = (with_first o v b.csrs).satp; number = (with_first o v b.csrs).hart; ram = λ n. is_there (at n) } in f) ≡ fixed_in b at
    fixed_csr None = refl
    fixed_csr (Some Sstatus) = refl
    fixed_csr (Some Satp) = refl
    fixed_csr (Some Mstatus) = refl
    fixed_csr (Some Medeleg) = refl
    fixed_csr (Some Mhartid) = refl
    fixed_csr (Some (Lazy r)) = refl

fit_csr : (addr v : ℕ) (b : Bare) → IsFit b → IsFit (with_csr addr v b)
fit_csr addr v b fit = record { size = fit.size; zero = fit.zero; lazy = go (register_at addr) }
  where
    go : (o : Option Register) → length (with_first o v b.csrs).lazy ≡ 10
    go None = fit.lazy
    go (Some Sstatus) = fit.lazy
    go (Some Satp) = fit.lazy
    go (Some Mstatus) = fit.lazy
    go (Some Medeleg) = fit.lazy
    go (Some Mhartid) = fit.lazy
    go (Some (Lazy r)) = length-set b.csrs.lazy (slot_of r) (Some v) ∙ fit.lazy

number_csr : (addr v : ℕ) (b : Bare) → (with_csr addr v b).csrs.hart ≡ b.csrs.hart
number_csr addr v b = go (register_at addr)
  where
    go : (o : Option Register) → (with_first o v b.csrs).hart ≡ b.csrs.hart
    go None = refl
    go (Some Sstatus) = refl
    go (Some Satp) = refl
    go (Some Mstatus) = refl
    go (Some Medeleg) = refl
    go (Some Mhartid) = refl
    go (Some (Lazy r)) = refl

pub csr_partial : (k addr v : ℕ) (w : Whole) → HasHart k w → IsFit (first_of k w) → IsFit (hart_of k w) → IsCsrUntouched k addr w
    → partial_of (csr_given k addr v w) ≡ place_started k (csr_key addr) v (partial_of w)
csr_partial k addr v w has first fit untouched = same_partial (partial_of (csr_given k addr v w)) (place_started k (csr_key addr) v (partial_of w)) (record {
  count = length-set w.harts k (with_csr addr v (hart_of k w));
  start = at_each (λ (b : Bare). held_in b w.memory) w.first k (with_csr addr v (first_of k w)) no_hart (with_place (csr_key addr) v (held_in (first_of k w) w.memory)) has.first (held_csr addr v (first_of k w) w.memory first untouched.first);
  words = λ i. refl;
  records = λ i. refl;
  harts = at_each (λ (b : Bare). held_in b w.memory) w.harts k (with_csr addr v (hart_of k w)) no_hart (with_place (csr_key addr) v (held_in (hart_of k w) w.memory)) has.now (held_csr addr v (hart_of k w) w.memory fit untouched.now);
  memory = λ i. refl;
})

none_untouched : (csrs : CsrValues) (addr : ℕ) → is_untouched csrs addr ≡ true → lazy_value_at csrs addr ≡ None
none_untouched csrs addr u = go (register_at addr) u
  where
    none : (o : Option ℕ) → is_none o ≡ true → o ≡ None
    none None e = refl
    none (Some v) e = absurd (cc e)

    go : (o : Option Register) → is_unknown csrs o ≡ true → known_register csrs o ≡ None
    go None e = refl
    go (Some Sstatus) e = refl
    go (Some Satp) e = refl
    go (Some Mstatus) e = refl
    go (Some Medeleg) e = refl
    go (Some Mhartid) e = refl
    go (Some (Lazy r)) e = none (lazy_value csrs r) e

pub test_csr : (k addr v : ℕ) (w : Whole) → IsTest w → HasHart k w → IsCsrUntouched k addr w → IsTest (csr_given k addr v w)
test_csr k addr v w test has untouched =
    let first : length (csr_given k addr v w).first ≡ length w.first = length-set w.first k (with_csr addr v (first_of k w)) in
    let harts : length (csr_given k addr v w).harts ≡ length w.harts = length-set w.harts k (with_csr addr v (hart_of k w)) in
    let same : csr_address (csr_key addr) ≡ addr = omega arith in
    let none : value_of_key (hart_of k w) (csr_key addr) ≡ None = rw (high_key addr) (ap (λ (a : ℕ). lazy_value_at (hart_of k w).csrs a) same ∙ none_untouched (hart_of k w).csrs addr untouched.now) in
    record {
      first = first ∙ test.first ∙ sym harts;
      traces = test.traces ∙ sym harts;
      fit_first = λ j l. each_item IsFit w.first k (with_csr addr v (first_of k w)) no_hart has.first (fit_csr addr v (first_of k w) (test.fit_first k has.now))
          (λ i u. test.fit_first i (omega (arith, u, test.first))) j (omega (arith, l, harts, test.first));
      fit = λ j l. each_item IsFit w.harts k (with_csr addr v (hart_of k w)) no_hart has.now (fit_csr addr v (hart_of k w) (test.fit k has.now)) test.fit j (omega (arith, l, harts));
      number_first = λ j l. each_place HasNumber w.first k (with_csr addr v (first_of k w)) no_hart has.first (number_csr addr v (first_of k w) ∙ test.number_first k has.now)
          (λ i u. test.number_first i (omega (arith, u, test.first))) j (omega (arith, l, harts, test.first));
      number = λ j l. each_place HasNumber w.harts k (with_csr addr v (hart_of k w)) no_hart has.now (number_csr addr v (hart_of k w) ∙ test.number k has.now) test.number j (omega (arith, l, harts));
      there = test.there;
      small = test.small;
      test = subst IsPartialTest (sym (csr_partial k addr v w has (test.fit_first k has.now) (test.fit k has.now) untouched)) (late_place (partial_of w) k (csr_key addr) v test.test none);
      foot = test.foot;
    }

pub untouched_none : (csrs : CsrValues) (addr : ℕ) (r : LazyRegister) → register_at addr ≡ Some (Lazy r) → lazy_value_at csrs addr ≡ None → is_untouched csrs addr ≡ true
untouched_none csrs addr r e none = rw e (let same : lazy_value csrs r ≡ None = rw e at none in ap (λ (o : Option ℕ). is_none o) same)

lazy_of : (csrs : CsrValues) (addr : ℕ) → is_untouched csrs addr ≡ true → (r : LazyRegister) × (register_at addr ≡ Some (Lazy r))
lazy_of csrs addr u = go (register_at addr) refl u
  where
    go : (o : Option Register) → register_at addr ≡ o → is_unknown csrs o ≡ true → (r : LazyRegister) × (register_at addr ≡ Some (Lazy r))
    go None e u = absurd (cc u)
    go (Some Sstatus) e u = absurd (cc u)
    go (Some Satp) e u = absurd (cc u)
    go (Some Mstatus) e u = absurd (cc u)
    go (Some Medeleg) e u = absurd (cc u)
    go (Some Mhartid) e u = absurd (cc u)
    go (Some (Lazy r)) e u = (r, e)

-- a lazy CSR of which no value is known was not given one
pub csr_untouched : (k addr : ℕ) (w : Whole) → IsTest w → HasHart k w → is_untouched (hart_of k w).csrs addr ≡ true → IsCsrUntouched k addr w
csr_untouched k addr w test has now =
    let is = lazy_of (hart_of k w).csrs addr now in
    let same : csr_address (csr_key addr) ≡ addr = omega arith in
    let none : value_of_key (hart_of k w) (csr_key addr) ≡ None = rw (high_key addr) (ap (λ (a : ℕ). lazy_value_at (hart_of k w).csrs a) same ∙ none_untouched (hart_of k w).csrs addr now) in
    let fresh : value_of_key (first_of k w) (csr_key addr) ≡ None = not_given (partial_of w) k (csr_key addr) test.test none in
    let low : lazy_value_at (first_of k w).csrs (csr_address (csr_key addr)) ≡ None = rw (high_key addr) at fresh in
    record {
      first = untouched_none (first_of k w).csrs addr is.0 is.1 (ap (λ (a : ℕ). lazy_value_at (first_of k w).csrs a) (sym same) ∙ low);
      now = now;
    }

pub word_untouched : (addr : ℕ) (w : Whole) → IsTest w → in_ram w.ram (addr / 4) ≡ true → known_word (w.memory (addr / 4)) ≡ None → w.memory (addr / 4) ≡ Untouched
word_untouched addr w test there none = go (w.memory (addr / 4)) (test.there (addr / 4) ∙ there) none
  where
    go : (s : Seen) → is_there s ≡ true → known_word s ≡ None → s ≡ Untouched
    go (KnownWord v) t n = absurd (cc n)
    go Untouched t n = refl
    go Vacant t n = absurd (cc t)
