-- A write is read back, and changes no bit that it does not show.
use Rattle.std.proofs.Common.{◌≡◌, ℕ, ◌-◌, ◌^◌, min, max, arith, refl, sym, ap, ◌∙◌, get_or-set_same, bit_and, bit_or, Some, None}
use Rattle.std.proofs.lemmas.Bool.{eqb-true}
use Rattle.std.proofs.lemmas.Nat.Bits.{bit_at-zero, bit_at_and, bit_at_or, same_from_bits}
use Rattle.std.specs.Int.{bit_at}
use Rattle.rv_csr.specs.declared.table.Register.TheVariants.{Sstatus, Satp, Mstatus, Medeleg, Mhartid, Lazy}
use Rattle.rv_csr.specs.State.{slot_of}
use Rattle.rv_csr.specs.Laws.{KeepsWritten, KeepsHiddenBits}
use Rattle.rv_csr.proofs.LegalValues.{slot_below}

-- of two masks without a common bit, a value within the first is what that one shows of a word that has the other's bits from elsewhere
shown : (mask rest old n : ℕ) → bit_and rest mask ≡ 0 → bit_and n mask ≡ n → bit_and (bit_or (bit_and old rest) n) mask ≡ n
shown mask rest old n apart within = same_from_bits _ _ (λ i.
    let none : min (bit_at rest i) (bit_at mask i) ≡ bit_at 0 i = sym (bit_at_and rest mask i) ∙ ap (λ (m : ℕ). bit_at m i) apart in
    let some : min (bit_at n i) (bit_at mask i) ≡ bit_at n i = sym (bit_at_and n mask i) ∙ ap (λ (m : ℕ). bit_at m i) within in
    let zero_at : bit_at 0 i ≡ 0 = bit_at-zero i in
    let whole : bit_at (bit_and (bit_or (bit_and old rest) n) mask) i ≡ min (max (min (bit_at old i) (bit_at rest i)) (bit_at n i)) (bit_at mask i) =
    bit_at_and (bit_or (bit_and old rest) n) mask i ∙ ap (λ (m : ℕ). min m (bit_at mask i)) (bit_at_or (bit_and old rest) n i ∙ ap (λ (m : ℕ). max m (bit_at n i)) (bit_at_and old rest i)) in
    omega arith)

-- and the other one shows of it what it showed before
hidden : (mask rest old n : ℕ) → bit_and rest mask ≡ 0 → bit_and n mask ≡ n → bit_and (bit_or (bit_and old rest) n) rest ≡ bit_and old rest
hidden mask rest old n apart within = same_from_bits _ _ (λ i.
    let none : min (bit_at rest i) (bit_at mask i) ≡ bit_at 0 i = sym (bit_at_and rest mask i) ∙ ap (λ (m : ℕ). bit_at m i) apart in
    let some : min (bit_at n i) (bit_at mask i) ≡ bit_at n i = sym (bit_at_and n mask i) ∙ ap (λ (m : ℕ). bit_at m i) within in
    let zero_at : bit_at 0 i ≡ 0 = bit_at-zero i in
    let before : bit_at (bit_and old rest) i ≡ min (bit_at old i) (bit_at rest i) = bit_at_and old rest i in
    let whole : bit_at (bit_and (bit_or (bit_and old rest) n) rest) i ≡ min (max (min (bit_at old i) (bit_at rest i)) (bit_at n i)) (bit_at rest i) =
    bit_at_and (bit_or (bit_and old rest) n) rest i ∙ ap (λ (m : ℕ). min m (bit_at rest i)) (bit_at_or (bit_and old rest) n i ∙ ap (λ (m : ℕ). max m (bit_at n i)) before) in
    omega arith)

pub keeps_written : KeepsWritten
keeps_written csrs Sstatus n h legal = ap Some (shown 0x000c_0122 (2 ^ 32 - 1 - 0x000c_0122) csrs.mstatus n refl (eqb-true _ _ legal))
keeps_written csrs Satp n h legal = refl
keeps_written csrs Mstatus n h legal = refl
keeps_written csrs Medeleg n h legal = refl
keeps_written csrs Mhartid n h legal = cc
keeps_written csrs (Lazy register) n h legal = get_or-set_same csrs.lazy (slot_of register) (Some n) None (rw h.lazy.size (slot_below register))

pub keeps_hidden : KeepsHiddenBits
keeps_hidden status n h = hidden 0x000c_0122 (2 ^ 32 - 1 - 0x000c_0122) status n refl h
