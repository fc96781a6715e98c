-- All that is known of a hart of a test and of memory is words.
use Rattle.std.proofs.Common.{◌≡◌, ℕ, suc, ◌+◌, ◌*◌, ◌/◌, ◌^◌, ◌<◌, ◌⊎◌, Bool, true, false, ◌||◌, List, ◌∷◌, drop, length, Option, Some, None, slice_index_or, refl, sym, ap, ◌∙◌, subst, inl, inr, arith}
use Rattle.std.proofs.Math.Seq.{drop-cons}
use Rattle.std.proofs.lemmas.Bool.{and_parts, cases_lt, ltb-true}
use Rattle.std.proofs.lemmas.Nat.{and_le_l}
use Rattle.std.proofs.lemmas.List.{get_or_past}
use Rattle.rv_csr.specs.declared.access.CsrAccess.{CsrAccess}
use Rattle.rv_csr.specs.declared.access.CsrAccess.TheVariants.{Granted, Denied, Outside as NotModelled}
use Rattle.rv_csr.specs.declared.table.LazyRegister.{LazyRegister}
use Rattle.rv_csr.specs.declared.table.Register.{Register}
use Rattle.rv_csr.specs.declared.table.Register.TheVariants.{Sstatus, Satp, Mstatus, Medeleg, Mhartid, Lazy}
use Rattle.rv_csr.specs.State.{CsrValues, lazy_value, lazy_value_at, value_of}
use Rattle.rv_csr.specs.Table.{register_at, sstatus_mask}
use Rattle.rv_mem.specs.Ram.{in_ram, in_region}
use Rattle.rv_mem.specs.Seen.{known_word}
use Rattle.rv_script.specs.declared.place.Place.TheVariants.{Reg, Csr, Word}
use Rattle.tpl_admit.specs.Races.{footprints_of}
use Rattle.tpl_admit.specs.Validity.{in_turn}
use Rattle.part_laws.specs.Laws.{BegunLaw}
use Rattle.part_laws.proofs.Advance.{in_turn_words}
use Rattle.part_machine.specs.Whole.{Whole, fixed_in, hart_of}
use Rattle.part_state.specs.Meaning.{IsTest, partial_of}
use Rattle.leaf_link.specs.Values.{fixed_value}
use Rattle.leaf_link.specs.Ways.{AreWords}
use Rattle.turn_laws.specs.Given.{known_at}
use Rattle.leaf_turn.specs.Grounds.{AreFixedWords}

-- MEMORY
memory_words : (w : Whole) → BegunLaw → IsTest w → (n v : ℕ) → known_word (w.memory n) ≡ Some v → v < 2 ^ 32
memory_words w begun test n v h =
    let sys = begun (partial_of w) (λ m u g. (test.small m u g).1) in
    let is : in_turn (length w.harts) (footprints_of (partial_of w).records) sys.0.memory n ≡ v = test.test.memory sys.0 sys.1 n v h in
    subst (λ (u : ℕ). u < 2 ^ 32) is (in_turn_words (length w.harts) (footprints_of (partial_of w).records) sys.0.memory sys.1.small n)

-- CSRS
csr_words : (csrs : CsrValues) → ((register : LazyRegister) (v : ℕ) → lazy_value csrs register ≡ Some v → v < 2 ^ 32) → (addr v : ℕ) → lazy_value_at csrs addr ≡ Some v → v < 2 ^ 32
csr_words csrs lazies addr v h = go (register_at addr) h
  where
    go : (o : Option Register) → Rattle.rv_csr.specs.State.known_in csrs o ≡ Some v → v < 2 ^ 32
    go None h = absurd (cc)
    go (Some (Lazy register)) h = lazies register v h
    go (Some Sstatus) h = absurd (cc)
    go (Some Satp) h = absurd (cc)
    go (Some Mstatus) h = absurd (cc)
    go (Some Medeleg) h = absurd (cc)
    go (Some Mhartid) h = absurd (cc)

pub fixed_words : (w : Whole) (k : ℕ) → AreFixedWords (hart_of k w).csrs → (access : CsrAccess) → fixed_value (fixed_in (hart_of k w) w.memory) access < 2 ^ 32
fixed_words w k are Denied = omega arith
fixed_words w k are NotModelled = omega arith
fixed_words w k are (Granted (Lazy register)) = omega arith
fixed_words w k are (Granted Satp) = are.satp
fixed_words w k are (Granted Mstatus) = are.mstatus
fixed_words w k are (Granted Medeleg) = are.medeleg
fixed_words w k are (Granted Mhartid) = are.number
fixed_words w k are (Granted Sstatus) = (let less = and_le_l (hart_of k w).csrs.mstatus sstatus_mask in let small = are.mstatus in omega (arith, less, small))

-- ALL PLACES
pub known_words : (w : Whole) (k : ℕ) → BegunLaw → IsTest w → k < length w.harts
    → ((n v : ℕ) → n < 32 → slice_index_or (hart_of k w).regs n None ≡ Some v → v < 2 ^ 32)
    → ((register : LazyRegister) (v : ℕ) → lazy_value (hart_of k w).csrs register ≡ Some v → v < 2 ^ 32)
    → AreWords (known_at k w)
known_words w k begun test l registers lazies (Reg n) v h = elim (cases_lt n 32) [
  | inl small ↦ registers n v small h
  | inr past ↦
      let size = (test.fit k l).size in
      let none : slice_index_or (hart_of k w).regs n None ≡ None = get_or_past (hart_of k w).regs n None (omega (arith, size, past)) in
      absurd (cc)
]
known_words w k begun test l registers lazies (Csr addr) v h = csr_words (hart_of k w).csrs lazies addr v h
known_words w k begun test l registers lazies (Word addr) v h = memory_words w begun test (addr / 4) v h

-- REGIONS OF RAM
either : (a b : Bool) → (a || b) ≡ true → (a ≡ true) ⊎ (b ≡ true)
either true b h = inl refl
either false b h = inr h

-- the words of a region that ends below 2 ^ 32 are near
pub next_region : (regions : List (ℕ × ℕ)) (i : ℕ) (d : ℕ × ℕ) (end n : ℕ) → i < length regions → end ≡ (slice_index_or regions i d).1 → end < 2 ^ 32 → (in_ram (drop (i + 1) regions) n ≡ true → n < 2 ^ 30) → in_ram (drop i regions) n ≡ true → n < 2 ^ 30
next_region regions i d end n less is small later h =
    let next : suc i ≡ i + 1 = omega arith in
    let rest : drop i regions ≡ slice_index_or regions i d ∷ drop (i + 1) regions = drop-cons regions i d less ∙ ap (λ (m : ℕ). slice_index_or regions i d ∷ drop m regions) next in
    let k : in_ram (slice_index_or regions i d ∷ drop (i + 1) regions) n ≡ true = sym (ap (λ (l : List (ℕ × ℕ)). in_ram l n) rest) ∙ h in
    elim (either (in_region (slice_index_or regions i d) n) (in_ram (drop (i + 1) regions) n) k) [
      | inl here ↦
          let bound : (n * 4) < (slice_index_or regions i d).1 = ltb-true _ _ (and_parts _ _ here).1 in
          omega (arith, bound, is, small)
      | inr there ↦ later there
    ]
