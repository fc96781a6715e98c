-- What traps, returns and writes of sstatus make of a legal mstatus is legal.
use Rattle.std.proofs.Common.{◌≡◌, ℕ, ◌-◌, ◌^◌, min, max, Bool, true, false, not, ◌&&◌, eqb, arith, refl, sym, ap, ◌∙◌, bit_and, bit_or}
use Rattle.std.proofs.lemmas.Bool.{eqb-true, eq-eqb}
use Rattle.std.proofs.lemmas.Bool.Decides.{nat_tests}
use Rattle.std.proofs.lemmas.Nat.{and_comm, and_assoc}
use Rattle.std.proofs.lemmas.Nat.Bits.{bit_at_and, bit_at_or, same_from_bits}
use Rattle.std.specs.Int.{bit_at}
use Rattle.rv_csr.specs.declared.privilege.Priv.{Priv}
use Rattle.rv_csr.specs.declared.privilege.Priv.TheVariants.{U, S, M}
use Rattle.rv_csr.specs.declared.status.Flag.{Flag}
use Rattle.rv_csr.specs.declared.status.Flag.TheVariants.{Sie}
use Rattle.rv_csr.specs.Status.{IsLegalStatus, bit_of, replaced, with_flag, with_mpp, with_sstatus}
use Rattle.rv_csr.proofs.Fields.{field, field_and, kept_field, new_field}

-- what two values within the mask have together is within it
within_or : (mask a b : ℕ) → bit_and a mask ≡ a → bit_and b mask ≡ b → bit_and (bit_or a b) mask ≡ bit_or a b
within_or mask a b h k = same_from_bits _ _ (λ i.
    let f : min (bit_at a i) (bit_at mask i) ≡ bit_at a i = sym (bit_at_and a mask i) ∙ ap (λ (n : ℕ). bit_at n i) h in
    let g : min (bit_at b i) (bit_at mask i) ≡ bit_at b i = sym (bit_at_and b mask i) ∙ ap (λ (n : ℕ). bit_at n i) k in
    let l : bit_at (bit_and (bit_or a b) mask) i ≡ min (max (bit_at a i) (bit_at b i)) (bit_at mask i) = bit_at_and (bit_or a b) mask i ∙ ap (λ (n : ℕ). min n (bit_at mask i)) (bit_at_or a b i) in
    let r : bit_at (bit_or a b) i ≡ max (bit_at a i) (bit_at b i) = bit_at_or a b i in
    omega arith)

within_and : (mask a c : ℕ) → bit_and a mask ≡ a → bit_and (bit_and a c) mask ≡ bit_and a c
within_and mask a c h =
    ap (λ (n : ℕ). bit_and n mask) (and_comm a c) ∙ and_assoc mask c a ∙ ap (bit_and c) h ∙ and_comm c a

-- a value within a smaller mask is within the larger one
pub within_more : (small large v : ℕ) → bit_and small large ≡ small → bit_and v small ≡ v → bit_and v large ≡ v
within_more small large v h k =
    ap (λ (n : ℕ). bit_and n large) (sym k) ∙ and_assoc large v small ∙ ap (bit_and v) h ∙ k

and_both : (a b : Bool) → (a && b) ≡ true → (a ≡ true) × (b ≡ true)
and_both true true h = (refl, refl)
and_both true false h = cc
and_both false b h = cc

not_eqb : (a b : ℕ) → not (eqb a b) ≡ true → a ≡ b → ⊥
not_eqb a b h e = let t = eq-eqb a b e in let wrong : not true ≡ true = rw t at h in cc

eqb_not : (a b : ℕ) → (a ≡ b → ⊥) → not (eqb a b) ≡ true
eqb_not a b k = grind (arith, nat_tests)

legal : (n : ℕ) → bit_and n 0x005e_19aa ≡ n → (field 11 2 n ≡ 2 → ⊥) → IsLegalStatus n
legal n h k = rw (eq-eqb _ _ h, eqb_not (field 11 2 n) 2 k) refl

pub status_within : (n : ℕ) → IsLegalStatus n → bit_and n 0x005e_19aa ≡ n
status_within n h = eqb-true _ _ (and_both _ _ h).0

no_mpp_2 : (n : ℕ) → IsLegalStatus n → field 11 2 n ≡ 2 → ⊥
no_mpp_2 n h = not_eqb _ _ (and_both _ _ h).1

-- bits apart from MPP are replaced
kept_mpp : (mask n v : ℕ) → IsLegalStatus n → bit_and v 0x005e_19aa ≡ v → field 11 2 v ≡ 0 → field 11 2 (2 ^ 32 - 1 - mask) ≡ 3 → IsLegalStatus (replaced mask n v)
kept_mpp mask n v h within zero ones =
    legal _ (within_or _ _ v (within_and _ n _ (status_within n h)) within) (λ e. no_mpp_2 n h (sym (kept_field 11 2 mask n v ones zero) ∙ e))

-- MPP is replaced
new_mpp : (n v : ℕ) → IsLegalStatus n → bit_and v 0x005e_19aa ≡ v → (field 11 2 v ≡ 2 → ⊥) → IsLegalStatus (replaced 0x1800 n v)
new_mpp n v h within other =
    legal _ (within_or _ _ v (within_and _ n _ (status_within n h)) within) (λ e. other (sym (new_field 11 2 0x1800 n v refl) ∙ e))

-- a flag is a bit of mstatus, and none of MPP's
flag_within : (flag : Flag) → bit_and (2 ^ bit_of flag) 0x005e_19aa ≡ 2 ^ bit_of flag
flag_within Sie = refl
flag_within _ = refl

pub flag_apart : (flag : Flag) → field 11 2 (2 ^ bit_of flag) ≡ 0
flag_apart Sie = refl
flag_apart _ = refl

pub rest_apart : (flag : Flag) → field 11 2 (2 ^ 32 - 1 - 2 ^ bit_of flag) ≡ 3
rest_apart Sie = refl
rest_apart _ = refl

pub flag_legal : (flag : Flag) (on : Bool) (n : ℕ) → IsLegalStatus n → IsLegalStatus (with_flag flag on n)
flag_legal flag true n h = kept_mpp (2 ^ bit_of flag) n (2 ^ bit_of flag) h (flag_within flag) (flag_apart flag) (rest_apart flag)
flag_legal flag false n h = kept_mpp (2 ^ bit_of flag) n 0 h refl refl (rest_apart flag)

pub mpp_legal : (p : Priv) (n : ℕ) → IsLegalStatus n → IsLegalStatus (with_mpp p n)
mpp_legal U n h = new_mpp n 0 h refl (omega arith)
mpp_legal S n h = new_mpp n 0x800 h refl (omega arith)
mpp_legal M n h = new_mpp n 0x1800 h refl (omega arith)

-- what is within sstatus has no MPP
pub sstatus_apart : (v : ℕ) → bit_and v 0x000c_0122 ≡ v → field 11 2 v ≡ 0
sstatus_apart v h = ap (field 11 2) (sym h) ∙ field_and 11 2 v 0x000c_0122 ∙ and_comm _ 0

pub sstatus_legal : (n v : ℕ) → IsLegalStatus n → bit_and v 0x000c_0122 ≡ v → IsLegalStatus (with_sstatus v n)
sstatus_legal n v h k = kept_mpp 0x000c_0122 n v h (within_more 0x000c_0122 0x005e_19aa v refl k) (sstatus_apart v k) refl
