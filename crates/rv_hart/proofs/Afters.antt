-- What is known after a step.
use Rattle.std.proofs.Common.{◌≡◌, ◌≢◌, ℕ, ◌*◌, ◌/◌, ◌<◌, ◌≤◌, Bool, true, false, ◌||◌, List, [], ◌∷◌, length, Option, Some, None, if◌then◌else◌, refl, sym, ap, ◌∙◌, subst, inl, inr, arith}
use Rattle.std.specs.Prelude.{nat_eq, slice_index_or, slice_set}
use Rattle.std.specs.Option.{is_some, option_or, unwrap_or}
use Rattle.std.proofs.Math.Path.{fun_ext}
use Rattle.std.proofs.lemmas.Bool.{cases_eq, cases_lt, eq-eqb, ne_eqb, lt-ltb, le-ltb}
use Rattle.std.proofs.lemmas.List.{get_or-set_same, get_or-set_other, get_or_past, length-set}
use Rattle.std.proofs.lemmas.Option.{get_or_from_slice_get}
use Rattle.rv_mem.specs.declared.words.Seen.{Seen}
use Rattle.rv_mem.specs.declared.words.Seen.TheVariants.{Known as KnownWord, Untouched, Vacant}
use Rattle.rv_mem.specs.Seen.{known_word, is_there}
use Rattle.rv_csr.specs.declared.privilege.Priv.{Priv}
use Rattle.rv_csr.specs.State.{CsrValues, lazy_value_at}
use Rattle.rv_csr.specs.Table.{csr_address, csr_key}
use Rattle.rv_script.specs.declared.access.Access.{Access}
use Rattle.rv_script.specs.declared.place.Place.{Place}
use Rattle.rv_script.specs.declared.place.Place.TheVariants.{Reg, Csr, Word}
use Rattle.rv_script.specs.Folds.{Known, Answer, Answer.Does, Answer.Missing as Lacks, Answer.Nowhere, Teller}
use Rattle.rv_script.specs.Memory.{word_after, accessed, memory_after}
use Rattle.rv_hart.specs.declared.hart.Hart.{Hart}
use Rattle.rv_hart.specs.declared.record.Change.{Change}
use Rattle.rv_hart.specs.Changes.{IsSoundWrite, csrs_after, fixed_after, given_by, privilege_after, writes_of}
use Rattle.rv_hart.specs.Clauses.{is_written, IsDoneWith}
use Rattle.rv_hart.specs.Effects.{seen_word_after, seen_accessed, seen_after}
use Rattle.rv_hart.specs.Fixed.{Fixed, fixed_csrs}
use Rattle.rv_hart.specs.Machine.{script}
use Rattle.rv_hart.specs.Registers.{written}
use Rattle.rv_hart.specs.Sighted.{answer_seen}
use Rattle.rv_hart.specs.View.{known, fixed_of, change_in}
use Rattle.rv_hart.specs.Whole.{value_at, record_of, step_by, file_after}
use Rattle.rv_hart.proofs.Overlays.{or_old, over_control, over_at}
use Rattle.rv_hart.proofs.Steps.{told_by}

-- ---- words

-- a whole memory has the words that are known
abbrev HasWords : (ℕ → Seen) → (ℕ → ℕ) → Type 0
HasWords at words = (n v : ℕ) → known_word (at n) ≡ Some v → words n ≡ v

words_accessed : (x : Access) (at : ℕ → Seen) (words : ℕ → ℕ) → HasWords at words → HasWords (seen_accessed x at) (accessed x words)
words_accessed x at words has n v = go (nat_eq n (x.addr / 4)) (at n) (words n) (has n)
  where
    go : (b : Bool) (s : Seen) (w : ℕ) → ((u : ℕ) → known_word s ≡ Some u → w ≡ u) → known_word (if b then seen_word_after x n s else s) ≡ Some v → (if b then word_after x.role x n w else w) ≡ v
    go true (KnownWord u) w f e = let value : word_after x.role x n u ≡ v = cc e in ap (λ (k : ℕ). word_after x.role x n k) (f u refl) ∙ value
    go true Untouched w f e = absurd (cc e)
    go true Vacant w f e = absurd (cc e)
    go false s w f e = f v e

words_after : (xs : List Access) (at : ℕ → Seen) (words : ℕ → ℕ) → HasWords at words → HasWords (seen_after xs at) (memory_after xs words)
words_after [] at words has n v e = has n v e
words_after (x ∷ xs) at words has n v e = words_after xs (seen_accessed x at) (accessed x words) (words_accessed x at words has) n v e

there_after : (xs : List Access) (at : ℕ → Seen) (n : ℕ) → is_there (seen_after xs at n) ≡ is_there (at n)
there_after [] at n = refl
there_after (x ∷ xs) at n = there_after xs (seen_accessed x at) n ∙ go (nat_eq n (x.addr / 4)) (at n)
  where
    go : (b : Bool) (s : Seen) → is_there (if b then seen_word_after x n s else s) ≡ is_there s
    go true (KnownWord u) = refl
    go true Untouched = refl
    go true Vacant = refl
    go false s = refl

known_words_after : (xs : List Access) (at : ℕ → Seen) (n : ℕ) → is_some (known_word (seen_after xs at n)) ≡ is_some (known_word (at n))
known_words_after [] at n = refl
known_words_after (x ∷ xs) at n = known_words_after xs (seen_accessed x at) n ∙ go (nat_eq n (x.addr / 4)) (at n)
  where
    go : (b : Bool) (s : Seen) → is_some (known_word (if b then seen_word_after x n s else s)) ≡ is_some (known_word s)
    go true (KnownWord u) = refl
    go true Untouched = refl
    go true Vacant = refl
    go false s = refl

-- ---- registers

reg_set : (regs : List (Option ℕ)) (w : ℕ × ℕ) (n : ℕ) → length regs ≡ 32 → w.0 < 32
    → slice_index_or (written (Some w) regs) n None ≡ (if nat_eq w.0 n then Some w.1 else slice_index_or regs n None)
reg_set regs w n size small = elim (cases_eq w.0 n) [
  | inl same ↦
      rw (eq-eqb w.0 n same) (subst (λ (k : ℕ). slice_index_or (slice_set regs w.0 (Some w.1)) k None ≡ Some w.1) same (get_or-set_same regs w.0 (Some w.1) None (omega (arith, size, small))))
  | inr other ↦ rw (ne_eqb w.0 n other) (get_or-set_other regs w.0 n (Some w.1) None (λ e. other (sym e)))
]

-- ---- what a step writes

-- to a register but x0
write_at_register : (rd : Option (ℕ × ℕ)) (csrs : CsrValues) (n : ℕ) → n < 32 → given_by rd (lazy_value_at csrs (csr_address n)) n ≡ given_by rd None n
write_at_register rd csrs n small =
    let none : csr_address n ≡ 0 = omega (arith, small) in
    ap (λ (k : ℕ). given_by rd (lazy_value_at csrs k) n) none

-- to a CSR
write_at_csr : (rd : Option (ℕ × ℕ)) (other : ℕ → Option ℕ) (addr : ℕ) → IsSoundWrite rd → given_by rd (other (csr_address (csr_key addr))) (csr_key addr) ≡ other addr
write_at_csr None other addr sound = let back : csr_address (csr_key addr) ≡ addr = omega arith in ap other back
write_at_csr (Some w) other addr sound =
    let apart : w.0 ≢ csr_key addr = λ same. absurd (omega (arith, same, (sound w refl).1)) in
    let back : csr_address (csr_key addr) ≡ addr = omega arith in
    rw (ne_eqb w.0 (csr_key addr) apart) (ap other back)

-- the registers after a write
regs_written : (rd : Option (ℕ × ℕ)) (regs : List (Option ℕ)) (n : ℕ) → IsSoundWrite rd → length regs ≡ 32 → slice_index_or (written rd regs) n None ≡ or_old (given_by rd None n) (slice_index_or regs n None)
regs_written None regs n sound size = refl
regs_written (Some w) regs n sound size = reg_set regs w n size (sound w refl).1 ∙ pick (nat_eq w.0 n) (slice_index_or regs n None)
  where
    pick : (b : Bool) (o : Option ℕ) → (if b then Some w.1 else o) ≡ or_old (if b then Some w.1 else None) o
    pick true o = refl
    pick false o = refl

written_length : (rd : Option (ℕ × ℕ)) (regs : List (Option ℕ)) → length regs ≡ 32 → length (written rd regs) ≡ 32
written_length None regs size = size
written_length (Some w) regs size = length-set regs w.0 (Some w.1) ∙ size

-- ---- places

-- a step's hart and memory after it
pub record Went (h new : Hart) (at new_at : ℕ → Seen) (xs : List Access) (c : Change) : Type 0 where
  pub pc : new.pc ≡ c.next_pc
  pub privilege : new.privilege ≡ privilege_after h.privilege h.csrs.mstatus h.csrs.medeleg c.control
  pub regs : new.regs ≡ written c.rd h.regs
  pub csrs : new.csrs ≡ csrs_after h.privilege h.pc c.control h.csrs
  pub memory : (n : ℕ) → new_at n ≡ seen_after xs at n
  pub rd : IsSoundWrite c.rd
  pub regs_size : length h.regs ≡ 32
  pub csrs_size : length h.csrs.lazy ≡ 10

-- what is known of a register or CSR is what was written, or else what was known
known_now : (h new : Hart) (at new_at : ℕ → Seen) (xs : List Access) (c : Change) → Went h new at new_at xs c → (n : ℕ) → n < 32
    → known new new_at (Reg n) ≡ or_old (writes_of (fixed_of h at) c n) (known h at (Reg n))
known_now h new at new_at xs c w n small =
    ap (λ (rs : List (Option ℕ)). slice_index_or rs n None) w.regs ∙ regs_written c.rd h.regs n w.rd w.regs_size
    ∙ sym (ap (λ (o : Option ℕ). or_old o (known h at (Reg n))) (write_at_register c.rd (csrs_after h.privilege h.pc c.control (fixed_csrs (fixed_of h at))) n small))

csr_now : (h new : Hart) (at new_at : ℕ → Seen) (xs : List Access) (c : Change) → Went h new at new_at xs c → (addr : ℕ)
    → known new new_at (Csr addr) ≡ or_old (writes_of (fixed_of h at) c (csr_key addr)) (known h at (Csr addr))
csr_now h new at new_at xs c w addr =
    let given : CsrValues = csrs_after h.privilege h.pc c.control (fixed_csrs (fixed_of h at)) in
    ap (λ (csrs : CsrValues). lazy_value_at csrs addr) w.csrs
    ∙ over_at (csrs_after h.privilege h.pc c.control h.csrs) given h.csrs addr (over_control h.privilege h.pc c.control h.csrs w.csrs_size)
    ∙ sym (ap (λ (o : Option ℕ). or_old o (known h at (Csr addr))) (write_at_csr c.rd (λ a. lazy_value_at given a) addr w.rd))

-- a register that there isn't
none_past : (h new : Hart) (at new_at : ℕ → Seen) (xs : List Access) (c : Change) → Went h new at new_at xs c → (n : ℕ) → 32 ≤ n → known new new_at (Reg n) ≡ None
none_past h new at new_at xs c w n large = ap (λ (rs : List (Option ℕ)). slice_index_or rs n None) w.regs ∙ get_or_past (written c.rd h.regs) n None (omega (arith, large, written_length c.rd h.regs w.regs_size))

or_some : (o old : Option ℕ) → is_some (or_old o old) ≡ (is_some o || is_some old)
or_some None old = refl
or_some (Some v) old = refl

-- which places are known after
places_after : (h new : Hart) (at new_at : ℕ → Seen) (xs : List Access) (c : Change) → Went h new at new_at xs c → (place : Place)
    → is_some (known new new_at place) ≡ (is_written (writes_of (fixed_of h at) c) place || is_some (known h at place))
places_after h new at new_at xs c w (Reg n) = elim (cases_lt n 32) [
  | inl small ↦ rw (lt-ltb n 32 small) (ap (λ (o : Option ℕ). is_some o) (known_now h new at new_at xs c w n small) ∙ or_some (writes_of (fixed_of h at) c n) (known h at (Reg n)))
  | inr large ↦
      rw (le-ltb n 32 large)
      (ap (λ (o : Option ℕ). is_some o) (none_past h new at new_at xs c w n large) ∙ sym (ap (λ (o : Option ℕ). is_some o) (get_or_past h.regs n None (omega (arith, large, w.regs_size)))))
]
places_after h new at new_at xs c w (Csr addr) = ap (λ (o : Option ℕ). is_some o) (csr_now h new at new_at xs c w addr) ∙ or_some (writes_of (fixed_of h at) c (csr_key addr)) (known h at (Csr addr))
places_after h new at new_at xs c w (Word addr) = ap (λ (s : Seen). is_some (known_word s)) (w.memory (addr / 4)) ∙ known_words_after xs at (addr / 4)

-- what is known before is so in a whole hart and memory
abbrev HasPlaces : Known → (ℕ → ℕ) → (ℕ → ℕ) → Type 0
HasPlaces known file words = (place : Place) (v : ℕ) → known place ≡ Some v → value_at file words place ≡ v

has_words : (h : Hart) (at : ℕ → Seen) (file words : ℕ → ℕ) → HasPlaces (known h at) file words → HasWords at words
has_words h at file words has n v e =
    let number : n * 4 / 4 ≡ n = omega arith in
    ap words (sym number) ∙ has (Word (n * 4)) v (ap (λ (k : ℕ). known_word (at k)) number ∙ e)

-- a value that was written, or else one that was known
either : (o old : Option ℕ) (value v : ℕ) → or_old o old ≡ Some v → (old ≡ Some v → value ≡ v) → unwrap_or o value ≡ v
either None old value v e f = f e
either (Some u) old value v e f = cc e

values_after : (h new : Hart) (at new_at : ℕ → Seen) (xs : List Access) (c : Change) → Went h new at new_at xs c → (file words : ℕ → ℕ)
    → HasPlaces (known h at) file words → HasPlaces (known new new_at) (file_after (writes_of (fixed_of h at) c) file) (memory_after xs words)
values_after h new at new_at xs c w file words has (Reg n) v e = elim (cases_lt n 32) [
  | inl small ↦ elim (cases_eq n 0) [
    | inl none ↦ rw (eq-eqb n 0 none) (zero_known n v none e)
    | inr some ↦
        rw (ne_eqb n 0 some) (either (writes_of (fixed_of h at) c n) (known h at (Reg n)) (file n) v (sym (known_now h new at new_at xs c w n small) ∙ e)
        (λ old. sym (value_is n some) ∙ has (Reg n) v old))
  ]
  | inr large ↦ (let none : None ≡ Some v = sym (none_past h new at new_at xs c w n large) ∙ e in absurd (cc none))
]
  where
    value_is : (k : ℕ) → k ≢ 0 → value_at file words (Reg k) ≡ file k
    value_is k some = rw (ne_eqb k 0 some) refl

    zero_known : (k u : ℕ) → k ≡ 0 → slice_index_or new.regs k None ≡ Some u → 0 ≡ u
    zero_known k u none is =
        let here : slice_index_or new.regs 0 None ≡ Some u = subst (λ (i : ℕ). slice_index_or new.regs i None ≡ Some u) none is in
        let zero_is : slice_index_or new.regs 0 None ≡ Some 0 = get_or_from_slice_get new.regs 0 (Some 0) None new.zero in
        let both : Some 0 ≡ Some u = sym zero_is ∙ here in
        cc both
values_after h new at new_at xs c w file words has (Csr addr) v e =
    either (writes_of (fixed_of h at) c (csr_key addr)) (known h at (Csr addr)) (file (csr_key addr)) v (sym (csr_now h new at new_at xs c w addr) ∙ e) (λ old. has (Csr addr) v old)
values_after h new at new_at xs c w file words has (Word addr) v e =
    words_after xs at words (has_words h at file words has) (addr / 4) v (sym (ap (λ (s : Seen). known_word s) (w.memory (addr / 4))) ∙ e)

-- ---- fixed parts

abbrev fixed_from : ℕ → Priv → ℕ → ℕ → ℕ → ℕ → (ℕ → Bool) → Fixed
fixed_from pc privilege mstatus medeleg satp number ram = record { pc = pc; privilege = privilege; mstatus = mstatus; medeleg = medeleg; satp = satp; number = number; ram = ram }

fixed_now : (h new : Hart) (at new_at : ℕ → Seen) (xs : List Access) (c : Change) → Went h new at new_at xs c → fixed_after (fixed_of h at) c ≡ fixed_of new new_at
fixed_now h new at new_at xs c w =
    let over = over_control h.privilege h.pc c.control h.csrs w.csrs_size in
    let ram : (λ (n : ℕ). is_there (new_at n)) ≡ (λ (n : ℕ). is_there (at n)) = fun_ext (λ n. ap (λ (s : Seen). is_there s) (w.memory n) ∙ there_after xs at n) in
    let csrs : CsrValues = csrs_after h.privilege h.pc c.control (fixed_csrs (fixed_of h at)) in
    let real : CsrValues = csrs_after h.privilege h.pc c.control h.csrs in
    sym (
    ap (λ (n : ℕ). fixed_from n new.privilege new.csrs.mstatus new.csrs.medeleg new.csrs.satp new.csrs.hart (λ k. is_there (new_at k))) w.pc
    ∙ ap (λ (p : Priv). fixed_from c.next_pc p new.csrs.mstatus new.csrs.medeleg new.csrs.satp new.csrs.hart (λ k. is_there (new_at k))) w.privilege
    ∙ ap (λ (v : CsrValues). fixed_from c.next_pc (privilege_after h.privilege h.csrs.mstatus h.csrs.medeleg c.control) v.mstatus v.medeleg v.satp v.hart (λ k. is_there (new_at k))) w.csrs
    ∙ ap (λ (n : ℕ). fixed_from c.next_pc (privilege_after h.privilege h.csrs.mstatus h.csrs.medeleg c.control) n real.medeleg real.satp real.hart (λ k. is_there (new_at k))) over.mstatus
    ∙ ap (λ (n : ℕ). fixed_from c.next_pc (privilege_after h.privilege h.csrs.mstatus h.csrs.medeleg c.control) csrs.mstatus n real.satp real.hart (λ k. is_there (new_at k))) over.medeleg
    ∙ ap (λ (n : ℕ). fixed_from c.next_pc (privilege_after h.privilege h.csrs.mstatus h.csrs.medeleg c.control) csrs.mstatus csrs.medeleg n real.hart (λ k. is_there (new_at k))) over.satp
    ∙ ap (λ (n : ℕ). fixed_from c.next_pc (privilege_after h.privilege h.csrs.mstatus h.csrs.medeleg c.control) csrs.mstatus csrs.medeleg csrs.satp n (λ k. is_there (new_at k))) over.hart
    ∙ ap (λ (there : ℕ → Bool). fixed_from c.next_pc (privilege_after h.privilege h.csrs.mstatus h.csrs.medeleg c.control) csrs.mstatus csrs.medeleg csrs.satp h.csrs.hart there) ram
    )

-- ---- the step

written_or : (o old : Option ℕ) → or_old o old ≡ option_or o old
written_or None old = refl
written_or (Some v) old = refl

pub done : (sights : Teller) (h new : Hart) (at new_at : ℕ → Seen) (xs : List Access) (c : Change) → answer_seen sights (known h at) (script (fixed_of h at)) ≡ Does xs c → Went h new at new_at xs c
    → IsDoneWith sights (fixed_of h at) (known h at) (record_of (fixed_of h at) xs c) (fixed_of new new_at) (known new new_at)
done sights h new at new_at xs c answered w = record {
  step = step_by (fixed_of h at) xs c;
  did = refl;
  wholes = λ x words has. (
    (told_by sights (fixed_of h at) (known h at) x words xs c has answered).step,
    record {
      fixed = fixed_now h new at new_at xs c w;
      values = values_after h new at new_at xs c w x.file words has.values;
    },
  );
  fixed = fixed_now h new at new_at xs c w;
  places = places_after h new at new_at xs c w;
  registers = λ n small. known_now h new at new_at xs c w n small ∙ written_or (writes_of (fixed_of h at) c n) (known h at (Reg n));
  csrs = λ addr. csr_now h new at new_at xs c w addr ∙ written_or (writes_of (fixed_of h at) c (csr_key addr)) (known h at (Csr addr));
}

-- a change comes with its accesses
pub record Comes (a : Answer Access Change) (c : Change) : Type 0 where
  pub accesses : List Access
  pub is : a ≡ Does accesses c

pub comes : (a : Answer Access Change) (c : Change) → Some c ≡ change_in a → Comes a c
comes (Does xs d) c e = let same : d ≡ c = cc e in record { accesses = xs; is = ap (λ (b : Change). Does xs b) same }
comes (Lacks place) c e = absurd (cc e)
comes Nowhere c e = absurd (cc e)
