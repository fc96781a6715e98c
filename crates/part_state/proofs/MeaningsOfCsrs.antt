-- A first value for a lazy CSR is one for its key.
use Rattle.std.proofs.Common.{◌≡◌, ◌≢◌, ℕ, ◌<◌, true, false, eqb, ltb, List, [], ◌∷◌, length, get_or, Option, Some, None, refl, sym, ap, ◌∙◌, inl, inr, arith, if◌then◌else◌}
use Rattle.std.proofs.lemmas.Bool.{cases_eq, cases_lt, eq-eqb, ne_eqb, ltb-true, lt-ltb, false_from_ne_true}
use Rattle.rv_csr.specs.declared.table.LazyRegister.{LazyRegister}
use Rattle.rv_csr.specs.declared.table.LazyRegister.TheVariants.{Stvec, Sscratch, Sepc, Scause, Stval, Mtvec, Mscratch, Mepc, Mcause, Mtval}
use Rattle.rv_csr.specs.declared.table.Register.{Register}
use Rattle.rv_csr.specs.declared.table.Register.TheVariants.{Sstatus, Satp, Mstatus, Medeleg, Mhartid, Lazy}
use Rattle.rv_csr.specs.Table.{csr_key, csr_address, address_of, register_at}
use Rattle.rv_csr.specs.State.{CsrValues, lazy_value_at, known_in as known_register, slot_of, with_lazy, with_first, started, is_unknown, is_untouched}
use Rattle.rv_csr.proofs.Places.{lazy_after}
use Rattle.part_laws.specs.Partial.{with_value}
use Rattle.part_machine.specs.Whole.{Bare, with_csr}
use Rattle.part_state.specs.Meaning.{value_of_key, IsFit}
use Rattle.given_start.proofs.Lazy.{has_address}
use Rattle.part_state.proofs.Keys.{none_low}

-- the address by the slot
addresses : List ℕ
addresses = 0x105 ∷ 0x140 ∷ 0x141 ∷ 0x142 ∷ 0x143 ∷ 0x305 ∷ 0x340 ∷ 0x341 ∷ 0x342 ∷ 0x343 ∷ []

by_slot : (r : LazyRegister) → address_of (Lazy r) ≡ get_or addresses (slot_of r) 0
unfolding addresses
by_slot Stvec = refl
by_slot Sscratch = refl
by_slot Sepc = refl
by_slot Scause = refl
by_slot Stval = refl
by_slot Mtvec = refl
by_slot Mscratch = refl
by_slot Mepc = refl
by_slot Mcause = refl
by_slot Mtval = refl

-- another address is of another slot
other_slot : (a b : ℕ) (r q : LazyRegister) → register_at a ≡ Some (Lazy r) → register_at b ≡ Some (Lazy q) → b ≢ a → slot_of r ≢ slot_of q
other_slot a b r q ea eb apart same =
    apart (sym (has_address b (Lazy q) eb) ∙ by_slot q ∙ ap (λ (i : ℕ). get_or addresses i 0) (sym same) ∙ sym (by_slot r) ∙ has_address a (Lazy r) ea)

-- the values after one is given to the lazy register at an address
started_value : (addr v : ℕ) (csrs : CsrValues) → length csrs.lazy ≡ 10 → is_untouched csrs addr ≡ true → (other : ℕ) → lazy_value_at (started addr v csrs) other ≡ (if eqb other addr then Some v else lazy_value_at csrs other)
started_value addr v csrs size untouched other = go (register_at addr) refl untouched
  where
    past : (r : LazyRegister) (o : Option Register) → register_at addr ≡ Some (Lazy r) → register_at other ≡ o → other ≢ addr → known_register (with_lazy r v csrs) o ≡ known_register csrs o
    past r None ea eo ne = refl
    past r (Some Sstatus) ea eo ne = refl
    past r (Some Satp) ea eo ne = refl
    past r (Some Mstatus) ea eo ne = refl
    past r (Some Medeleg) ea eo ne = refl
    past r (Some Mhartid) ea eo ne = refl
    past r (Some (Lazy q)) ea eo ne = lazy_after csrs r q v size ∙ rw (ne_eqb (slot_of r) (slot_of q) (other_slot addr other r q ea eo ne)) refl

    go : (o : Option Register) → register_at addr ≡ o → is_unknown csrs o ≡ true → lazy_value_at (with_first o v csrs) other ≡ (if eqb other addr then Some v else lazy_value_at csrs other)
    go None e u = absurd (cc u)
    go (Some Sstatus) e u = absurd (cc u)
    go (Some Satp) e u = absurd (cc u)
    go (Some Mstatus) e u = absurd (cc u)
    go (Some Medeleg) e u = absurd (cc u)
    go (Some Mhartid) e u = absurd (cc u)
    go (Some (Lazy r)) e u = elim (cases_eq other addr) [
      | inl same ↦
          rw (eq-eqb other addr same) (ap (λ (a : ℕ). lazy_value_at (with_lazy r v csrs) a) same ∙ ap (known_register (with_lazy r v csrs)) e
          ∙ lazy_after csrs r r v size ∙ rw (eq-eqb (slot_of r) (slot_of r) refl) refl)
      | inr ne ↦ rw (ne_eqb other addr ne) (past r (register_at other) e refl ne)
    ]

pub csr_value : (addr v : ℕ) (b : Bare) → IsFit b → is_untouched b.csrs addr ≡ true → (key : ℕ) → value_of_key (with_csr addr v b) key ≡ with_value (csr_key addr) v (value_of_key b) key
csr_value addr v b fit untouched key = elim (cases_lt key 32) [
  | inl l ↦ rw (lt-ltb key 32 l, ne_eqb key (csr_key addr) (λ e. absurd (omega (arith, e, l)))) refl
  | inr g ↦
      let high : ltb key 32 ≡ false = false_from_ne_true _ (λ t. let l : key < 32 = ltb-true key 32 t in absurd (omega (arith, l, g))) in
      elim (cases_lt key 4096) [
        | inl low ↦ rw (high, ne_eqb key (csr_key addr) (λ e. absurd (omega (arith, e, low)))) (none_low (started addr v b.csrs) key (omega (arith, low)) ∙ sym (none_low b.csrs key (omega (arith, low))))
        | inr up ↦ rw high (started_value addr v b.csrs fit.lazy untouched (csr_address key) ∙ elim (cases_eq key (csr_key addr)) [
          | inl same ↦ rw (eq-eqb key (csr_key addr) same, eq-eqb (csr_address key) addr (omega (arith, same))) refl
          | inr other ↦ rw (ne_eqb key (csr_key addr) other, ne_eqb (csr_address key) addr (λ e. other (omega (arith, e, up)))) refl
        ])
      ]
]
