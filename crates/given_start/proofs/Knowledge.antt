-- What is known of a hart, by keys.
use Rattle.std.proofs.Common.{◌≡◌, ◌≢◌, ℕ, zero, suc, ◌<◌, ◌≤◌, List, length, Option, Some, None, if◌then◌else◌, refl, sym, ap, ◌∙◌, subst, inl, inr, arith}
use Rattle.std.specs.Prelude.{nat_eq, slice_index_or, slice_set, replicate, IsTrue}
use Rattle.std.proofs.lemmas.Bool.{cases_eq, cases_lt, eq-eqb, ne_eqb, lt-ltb, le-ltb}
use Rattle.std.proofs.lemmas.List.{get_or-set_same, get_or-set_other, length-set, length-replicate, get_or-replicate, get_or_past}
use Rattle.rv_csr.specs.declared.table.LazyRegister.{LazyRegister}
use Rattle.rv_csr.specs.declared.table.Register.{Register}
use Rattle.rv_csr.specs.declared.table.Register.TheVariants.{Sstatus, Satp, Mstatus, Medeleg, Mhartid, Lazy}
use Rattle.rv_csr.specs.State.{CsrValues, first_values, is_untouched, known_in, lazy_value, lazy_value_at, slot_of, started, with_first, with_lazy}
use Rattle.rv_csr.specs.Table.{address_of, csr_key, register_at, csr_address, first_csr_key}
use Rattle.rv_csr.proofs.LegalValues.{slots_apart}
use Rattle.rv_csr.proofs.Places.{lazy_after, none_at_first}
use Rattle.rv_hart.specs.Fixed.{Fixed}
use Rattle.rv_hart.specs.Registers.{no_registers}
use Rattle.rv_hart.specs.Whole.{WholeHart}
use Rattle.given_start.specs.Knowledge.{known_at}
use Rattle.given_start.proofs.Lazy.{NamesCsr, has_address, address_positive}

pub known_zero : (regs : List (Option ℕ)) (csrs : CsrValues) → known_at regs csrs 0 ≡ None
unfolding known_at
known_zero regs csrs = refl

pub known_small : (regs : List (Option ℕ)) (csrs : CsrValues) (key : ℕ) → key < 32 → key ≢ 0 → known_at regs csrs key ≡ slice_index_or regs key None
unfolding known_at
known_small regs csrs key small some = rw (lt-ltb key 32 small, ne_eqb key 0 some) refl

pub known_large : (regs : List (Option ℕ)) (csrs : CsrValues) (key : ℕ) → 32 ≤ key → known_at regs csrs key ≡ lazy_value_at csrs (csr_address key)
unfolding known_at
known_large regs csrs key large = rw (le-ltb key 32 large) refl

pub known_csr : (regs : List (Option ℕ)) (csrs : CsrValues) (addr : ℕ) → known_at regs csrs (csr_key addr) ≡ lazy_value_at csrs addr
known_csr regs csrs addr =
    let back : csr_address (csr_key addr) ≡ addr = omega arith in
    known_large regs csrs (csr_key addr) (omega arith) ∙ ap (λ (a : ℕ). lazy_value_at csrs a) back

-- between the registers and the CSRs there is no place
pub known_between : (regs : List (Option ℕ)) (csrs : CsrValues) (key : ℕ) → 32 ≤ key → key < first_csr_key → known_at regs csrs key ≡ None
known_between regs csrs key large small =
    let none : csr_address key ≡ 0 = omega (arith, small) in
    known_large regs csrs key large ∙ ap (λ (a : ℕ). lazy_value_at csrs a) none

-- ---- after a value is given

pub known_reg_set : (regs : List (Option ℕ)) (csrs : CsrValues) (n v key : ℕ) → length regs ≡ 32 → 1 ≤ n → n < 32
    → known_at (slice_set regs n (Some v)) csrs key ≡ (if nat_eq n key then Some v else known_at regs csrs key)
known_reg_set regs csrs n v key size some small = elim (cases_lt key 32) [
  | inl below ↦ elim (cases_eq key 0) [
    | inl none ↦
        let other : n ≢ key = λ same. absurd (omega (arith, same, none, some)) in
        rw (ne_eqb n key other) (subst (λ (k : ℕ). known_at (slice_set regs n (Some v)) csrs k ≡ known_at regs csrs k) (sym none) (known_zero (slice_set regs n (Some v)) csrs ∙ sym (known_zero regs csrs)))
    | inr one ↦ known_small (slice_set regs n (Some v)) csrs key below one ∙ elim (cases_eq n key) [
      | inl same ↦ rw (eq-eqb n key same) (subst (λ (k : ℕ). slice_index_or (slice_set regs n (Some v)) k None ≡ Some v) same (get_or-set_same regs n (Some v) None (omega (arith, size, small))))
      | inr other ↦ rw (ne_eqb n key other) (get_or-set_other regs n key (Some v) None (λ e. other (sym e)) ∙ sym (known_small regs csrs key below one))
    ]
  ]
  | inr above ↦
      let other : n ≢ key = λ same. absurd (omega (arith, same, small, above)) in
      rw (ne_eqb n key other) (known_large (slice_set regs n (Some v)) csrs key above ∙ sym (known_large regs csrs key above))
]

pub started_named : (csrs : CsrValues) (key v : ℕ) (named : NamesCsr key) → started (csr_address key) v csrs ≡ with_lazy named.lazy v csrs
started_named csrs key v named = ap (λ (o : Option Register). with_first o v csrs) named.at

lazy_set : (csrs : CsrValues) (key v k : ℕ) (named : NamesCsr key) → length csrs.lazy ≡ 10
    → lazy_value_at (with_lazy named.lazy v csrs) (csr_address k) ≡ (if nat_eq key k then Some v else lazy_value_at csrs (csr_address k))
lazy_set csrs key v k named size = go (register_at (csr_address k)) refl
  where
    here : key ≡ k → register_at (csr_address k) ≡ Some (Lazy named.lazy)
    here same = subst (λ (i : ℕ). register_at (csr_address i) ≡ Some (Lazy named.lazy)) same named.at

    apart : (o : Option Register) → register_at (csr_address k) ≡ o → (Some (Lazy named.lazy) ≡ o → ⊥) → key ≢ k
    apart o e differ same = differ (sym (here same) ∙ e)

    go : (o : Option Register) → register_at (csr_address k) ≡ o → known_in (with_lazy named.lazy v csrs) o ≡ (if nat_eq key k then Some v else known_in csrs o)
    go None e = rw (ne_eqb key k (apart None e (λ f. cc))) refl
    go (Some Sstatus) e = rw (ne_eqb key k (apart (Some Sstatus) e (λ f. cc))) refl
    go (Some Satp) e = rw (ne_eqb key k (apart (Some Satp) e (λ f. cc))) refl
    go (Some Mstatus) e = rw (ne_eqb key k (apart (Some Mstatus) e (λ f. cc))) refl
    go (Some Medeleg) e = rw (ne_eqb key k (apart (Some Medeleg) e (λ f. cc))) refl
    go (Some Mhartid) e = rw (ne_eqb key k (apart (Some Mhartid) e (λ f. cc))) refl
    go (Some (Lazy other)) e = lazy_after csrs named.lazy other v size ∙ elim (cases_eq key k) [
      | inl same ↦
          let both : Some (Lazy named.lazy) ≡ Some (Lazy other) = sym (here same) ∙ e in
          let one : named.lazy ≡ other = cc both in
          rw (eq-eqb key k same, eq-eqb (slot_of named.lazy) (slot_of other) (ap (λ (r : LazyRegister). slot_of r) one)) refl
      | inr differ ↦
          let slots : slot_of named.lazy ≢ slot_of other = λ slot. differ (keys (slots_apart named.lazy other slot) e) in
          rw (ne_eqb key k differ, ne_eqb (slot_of named.lazy) (slot_of other) slots) refl
    ]
      where
        keys : named.lazy ≡ other → register_at (csr_address k) ≡ Some (Lazy other) → key ≡ k
        keys one e =
            let address : address_of (Lazy other) ≡ csr_address k = has_address (csr_address k) (Lazy other) e in
            let same : address_of (Lazy named.lazy) ≡ address_of (Lazy other) = ap (λ (r : LazyRegister). address_of (Lazy r)) one in
            let sum : key ≡ csr_key (address_of (Lazy named.lazy)) = named.is in
            omega (arith, sum, same, address, address_positive other)

-- as many lazy CSRs as there are after a value is given
size_before : (csrs : CsrValues) (key v : ℕ) (named : NamesCsr key) → length (started (csr_address key) v csrs).lazy ≡ 10 → length csrs.lazy ≡ 10
size_before csrs key v named size =
    sym (length-set csrs.lazy (slot_of named.lazy) (Some v)) ∙ ap (λ (cs : CsrValues). length cs.lazy) (sym (started_named csrs key v named)) ∙ size

pub untouched_named : (regs : List (Option ℕ)) (csrs : CsrValues) (key : ℕ) → NamesCsr key → known_at regs csrs key ≡ None → IsTrue (is_untouched csrs (csr_address key))
untouched_named regs csrs key named none =
    let unknown : lazy_value csrs named.lazy ≡ None = sym (ap (λ (o : Option Register). known_in csrs o) named.at) ∙ sym (known_large regs csrs key (omega (arith, named.from))) ∙ none in
    rw (named.at, unknown) refl

pub known_csr_set : (regs : List (Option ℕ)) (csrs : CsrValues) (key v k : ℕ) → length (started (csr_address key) v csrs).lazy ≡ 10 → NamesCsr key
    → known_at regs (started (csr_address key) v csrs) k ≡ (if nat_eq key k then Some v else known_at regs csrs k)
known_csr_set regs csrs key v k after named = ap (λ (cs : CsrValues). known_at regs cs k) (started_named csrs key v named) ∙ elim (cases_lt k 32) [
  | inl below ↦
      let other : key ≢ k = λ same. absurd (omega (arith, same, named.from, below)) in
      rw (ne_eqb key k other) (elim (cases_eq k 0) [
        | inl none ↦
            subst (λ (n : ℕ). known_at regs (with_lazy named.lazy v csrs) n ≡ known_at regs csrs n) (sym none) (known_zero regs (with_lazy named.lazy v csrs) ∙ sym (known_zero regs csrs))
        | inr some ↦ known_small regs (with_lazy named.lazy v csrs) k below some ∙ sym (known_small regs csrs k below some)
      ])
  | inr above ↦
      known_large regs (with_lazy named.lazy v csrs) k above ∙ lazy_set csrs key v k named (size_before csrs key v named after)
      ∙ sym (ap (λ (o : Option ℕ). if nat_eq key k then Some v else o) (known_large regs csrs k above))
]

-- ---- at first

abbrev nothing_known : Option ℕ
nothing_known = None

pub known_new : (hart mstatus medeleg satp key : ℕ) → known_at no_registers (first_values hart mstatus medeleg satp) key ≡ None
known_new hart mstatus medeleg satp key = elim (cases_lt key 32) [
  | inl below ↦ elim (cases_eq key 0) [
    | inl none ↦ subst (λ (n : ℕ). known_at no_registers first n ≡ None) (sym none) (known_zero no_registers first)
    | inr some ↦ known_small no_registers first key below some ∙ unknown key some
  ]
  | inr above ↦ known_large no_registers first key above ∙ go (register_at (csr_address key))
]
  where
    first : CsrValues
    first = first_values hart mstatus medeleg satp

    same : (n i : ℕ) → slice_index_or (replicate n nothing_known) i nothing_known ≡ nothing_known
    same n i = elim (cases_lt i n) [
      | inl within ↦ get_or-replicate n i nothing_known nothing_known within
      | inr past ↦ get_or_past (replicate n nothing_known) i nothing_known (omega (arith, length-replicate n nothing_known, past))
    ]

    unknown : (k : ℕ) → k ≢ 0 → slice_index_or no_registers k None ≡ None
    unknown zero some = absurd (some refl)
    unknown (suc k) some = same 31 k

    go : (o : Option Register) → known_in first o ≡ None
    go None = refl
    go (Some Sstatus) = refl
    go (Some Satp) = refl
    go (Some Mstatus) = refl
    go (Some Medeleg) = refl
    go (Some Mhartid) = refl
    go (Some (Lazy lazy)) = none_at_first hart mstatus medeleg satp lazy

-- ---- whole harts

abbrev pub whole : Fixed → (ℕ → ℕ) → WholeHart
whole f a = record { fixed = f; file = a }

pub wholes : (f g : Fixed) (a b : ℕ → ℕ) → f ≡ g → a ≡ b → whole f a ≡ whole g b
wholes f g a b fixed file = ap (λ (x : Fixed). whole x a) fixed ∙ ap (λ (x : ℕ → ℕ). whole g x) file
