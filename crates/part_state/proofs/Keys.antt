-- What is known of a hart, by keys and by places.
use Rattle.std.proofs.Common.{◌≡◌, ℕ, zero, suc, ◌<◌, ◌≤◌, if◌then◌else◌, true, false, eqb, ltb, List, [], ◌∷◌, length, length-set, set, get_or, Option, Some, None, refl, sym, ap, ◌∙◌, inl, inr, arith}
use Rattle.std.specs.Option.{option_or}
use Rattle.std.proofs.Math.Path.{fun_ext}
use Rattle.std.proofs.lemmas.Bool.{cases_Bool, cases_eq, cases_lt, eqb-true, eq-eqb, ne_eqb, ltb-true, lt-ltb, false_from_ne_true}
use Rattle.std.proofs.lemmas.List.{get_or-set_same, get_or-set_other}
use Rattle.rv_csr.specs.State.{CsrValues, lazy_value_at}
use Rattle.rv_csr.specs.Table.{csr_key, csr_address}
use Rattle.rv_mem.specs.declared.words.Seen.{Seen}
use Rattle.rv_mem.specs.Seen.{known_word}
use Rattle.rv_script.specs.declared.place.Place.{Place}
use Rattle.rv_script.specs.declared.place.Place.TheVariants.{Reg, Csr, Word}
use Rattle.rv_hart.specs.declared.record.Change.{Change}
use Rattle.rv_hart.specs.Changes.{csrs_after, given_by, writes_of, IsSoundWrite}
use Rattle.rv_hart.specs.Registers.{written}
use Rattle.rv_hart.proofs.Overlays.{or_old, bare as bare_csrs, IsOver, over_control, over_at}
use Rattle.part_laws.specs.Partial.{known_by, with_value}
use Rattle.part_machine.specs.Whole.{Bare, known_in, fixed_in, bare_after, with_register}
use Rattle.part_state.specs.Meaning.{value_of_key, held_in, IsFit}

past_end : (xs : List (Option ℕ)) (i : ℕ) → length xs ≤ i → get_or xs i None ≡ None
past_end [] i l = refl
past_end (x ∷ xs) zero l = absurd (omega arith)
past_end (x ∷ xs) (suc i) l = past_end xs i (omega arith)

not_below : (n size : ℕ) → size ≡ 32 → ltb n 32 ≡ false → size ≤ n
not_below n size is f = elim (cases_lt n 32) [
  | inl l ↦ let t : ltb n 32 ≡ true = lt-ltb n 32 l in let e : true ≡ false = sym t ∙ f in absurd (cc e)
  | inr g ↦ omega (arith, g, is)
]

pub high_key : (addr : ℕ) → ltb (csr_key addr) 32 ≡ false
high_key addr = false_from_ne_true _ (λ t. let l : csr_key addr < 32 = ltb-true (csr_key addr) 32 t in absurd (omega (arith, l)))

-- ---- places

pub same_known : (b : Bare) (at : ℕ → Seen) → IsFit b → known_by (held_in b at) (λ n. known_word (at n)) ≡ known_in b at
same_known b at fit = fun_ext go
  where
    go : (place : Place) → known_by (held_in b at) (λ n. known_word (at n)) place ≡ known_in b at place
    go (Reg n) = elim (cases_Bool (eqb n 0)) [
      | inl z ↦ rw z (sym (ap (λ (i : ℕ). get_or b.regs i None) (eqb-true n 0 z) ∙ fit.zero))
      | inr s ↦ elim (cases_Bool (ltb n 32)) [
        | inl small ↦ rw (s, small) refl
        | inr large ↦ rw (s, large) (sym (past_end b.regs n (not_below n (length b.regs) fit.size large)))
      ]
    ]
    go (Csr addr) =
        let large : ltb (csr_key addr) 32 ≡ false = high_key addr in
        let same : csr_address (csr_key addr) ≡ addr = omega arith in
        rw large (ap (lazy_value_at b.csrs) same)
    go (Word addr) = refl

-- ---- a register that is given

pub register_value : (n v : ℕ) (b : Bare) → IsFit b → 0 < n → n < 32 → (key : ℕ) → value_of_key (with_register n v b) key ≡ with_value n v (value_of_key b) key
register_value n v b fit some small key = elim (cases_eq key n) [
  | inl same ↦
      let low : ltb key 32 ≡ true = lt-ltb key 32 (omega (arith, same, small)) in
      let nonzero : eqb key 0 ≡ false = ne_eqb key 0 (λ e. absurd (omega (arith, same, some, e))) in
      rw (low, nonzero, eq-eqb key n same) (ap (λ (i : ℕ). get_or (set b.regs n (Some v)) i None) same ∙ get_or-set_same b.regs n (Some v) None (omega (arith, fit.size, small)))
  | inr other ↦ rw (ne_eqb key n other) (ap (λ (o : Option ℕ). if ltb key 32 then (if eqb key 0 then None else o) else lazy_value_at b.csrs (csr_address key)) (get_or-set_other b.regs n key (Some v) None other))
]

-- ---- a step

pub none_low : (csrs : CsrValues) (key : ℕ) → key < 4097 → lazy_value_at csrs (csr_address key) ≡ None
none_low csrs key l = let zero_is : csr_address key ≡ 0 = omega (arith, l) in ap (λ (a : ℕ). lazy_value_at csrs a) zero_is

same_or : (o q : Option ℕ) → or_old o q ≡ option_or o q
same_or None q = refl
same_or (Some v) q = refl

written_value : (rd : Option (ℕ × ℕ)) (regs : List (Option ℕ)) (key : ℕ) → length regs ≡ 32 → IsSoundWrite rd → key < 32 → get_or (written rd regs) key None ≡ option_or (given_by rd None key) (get_or regs key None)
written_value None regs key size sound l = refl
written_value (Some w) regs key size sound l = elim (cases_eq w.0 key) [
  | inl same ↦ rw (eq-eqb w.0 key same) (ap (λ (i : ℕ). get_or (set regs w.0 (Some w.1)) i None) (sym same) ∙ get_or-set_same regs w.0 (Some w.1) None (omega (arith, size, (sound w refl).1)))
  | inr other ↦ rw (ne_eqb w.0 key other) (get_or-set_other regs w.0 key (Some w.1) None (λ e. other (sym e)))
]

given_high : (rd : Option (ℕ × ℕ)) (o : Option ℕ) (key : ℕ) → IsSoundWrite rd → 32 ≤ key → given_by rd o key ≡ o
given_high None o key sound g = refl
given_high (Some w) o key sound g = rw (ne_eqb w.0 key (λ e. absurd (omega (arith, e, g, (sound w refl).1)))) refl

given_zero : (rd : Option (ℕ × ℕ)) → IsSoundWrite rd → given_by rd None 0 ≡ None
given_zero None sound = refl
given_zero (Some w) sound = rw (ne_eqb w.0 0 (λ e. absurd (omega (arith, e, (sound w refl).0)))) refl

-- what is known after a step is what it wrote, or else what was known
pub value_after : (b : Bare) (at : ℕ → Seen) (c : Change) → IsFit b → IsSoundWrite c.rd → (key : ℕ) → value_of_key (bare_after c b) key ≡ option_or (writes_of (fixed_in b at) c key) (value_of_key b key)
value_after b at c fit sound key = elim (cases_lt key 32) [
  | inl l ↦
      let low : ltb key 32 ≡ true = lt-ltb key 32 l in
      let none : lazy_value_at (csrs_after b.privilege b.pc c.control (bare_csrs b.csrs)) (csr_address key) ≡ None = none_low (csrs_after b.privilege b.pc c.control (bare_csrs b.csrs)) key (omega (arith, l)) in
      let writes : writes_of (fixed_in b at) c key ≡ given_by c.rd None key = ap (λ (o : Option ℕ). given_by c.rd o key) none in
      elim (cases_eq key 0) [
        | inl z ↦ let gone : given_by c.rd None key ≡ None = ap (given_by c.rd None) z ∙ given_zero c.rd sound in rw (low, eq-eqb key 0 z, writes, gone) refl
        | inr s ↦ rw (low, ne_eqb key 0 s, writes) (written_value c.rd b.regs key fit.size sound l)
      ]
  | inr g ↦
      let high : ltb key 32 ≡ false = false_from_ne_true _ (λ t. let l : key < 32 = ltb-true key 32 t in absurd (omega (arith, l, g))) in
      let over : IsOver (csrs_after b.privilege b.pc c.control b.csrs) (csrs_after b.privilege b.pc c.control (bare_csrs b.csrs)) b.csrs = over_control b.privilege b.pc c.control b.csrs fit.lazy in
      let writes : writes_of (fixed_in b at) c key ≡ lazy_value_at (csrs_after b.privilege b.pc c.control (bare_csrs b.csrs)) (csr_address key) =
      given_high c.rd (lazy_value_at (csrs_after b.privilege b.pc c.control (bare_csrs b.csrs)) (csr_address key)) key sound g in
      rw (high, writes) (over_at (csrs_after b.privilege b.pc c.control b.csrs) (csrs_after b.privilege b.pc c.control (bare_csrs b.csrs)) b.csrs (csr_address key) over ∙ same_or (lazy_value_at (csrs_after b.privilege b.pc c.control (bare_csrs b.csrs)) (csr_address key)) (lazy_value_at b.csrs (csr_address key)))
]

-- a step leaves a hart as the machine has it
pub fit_after : (b : Bare) (c : Change) → IsFit b → IsSoundWrite c.rd → IsFit (bare_after c b)
fit_after b c fit sound = record {
  size = written_size c.rd;
  zero = written_zero c.rd sound;
  lazy = (over_control b.privilege b.pc c.control b.csrs fit.lazy).size;
}
  where
    written_size : (rd : Option (ℕ × ℕ)) → length (written rd b.regs) ≡ 32
    written_size None = fit.size
    written_size (Some w) = length-set b.regs w.0 (Some w.1) ∙ fit.size

    written_zero : (rd : Option (ℕ × ℕ)) → IsSoundWrite rd → get_or (written rd b.regs) 0 None ≡ Some 0
    written_zero None s = fit.zero
    written_zero (Some w) s = get_or-set_other b.regs w.0 0 (Some w.1) None (λ e. absurd (omega (arith, e, (s w refl).0))) ∙ fit.zero
