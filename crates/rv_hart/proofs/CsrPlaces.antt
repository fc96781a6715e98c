-- What is known of a hart's control and status registers, as a script asks for it.
use Rattle.std.proofs.Common.{◌≡◌, ℕ, Bool, true, Option, Some, None, if◌then◌else◌, refl, sym, ap, ◌∙◌}
use Rattle.rv_mem.specs.declared.words.Seen.{Seen}
use Rattle.rv_isa.specs.declared.instruction.Instr.{Instr}
use Rattle.rv_csr.specs.declared.table.LazyRegister.{LazyRegister}
use Rattle.rv_csr.specs.declared.table.Register.{Register}
use Rattle.rv_csr.specs.declared.table.Register.TheVariants.{Sstatus, Satp, Mstatus, Medeleg, Mhartid, Lazy}
use Rattle.rv_csr.specs.State.{CsrValues, lazy_value, lazy_value_at, value_of}
use Rattle.rv_csr.specs.Table.{address_of}
use Rattle.rv_csr.proofs.Places.{at_own_address}
use Rattle.rv_script.specs.declared.access.Access.{Access}
use Rattle.rv_script.specs.declared.place.Place.TheVariants.{Csr}
use Rattle.rv_script.specs.Script.{Script, ◌>>=◌}
use Rattle.rv_script.specs.Folds.{Answer, on_told}
use Rattle.rv_hart.specs.declared.hart.Hart.{Hart}
use Rattle.rv_hart.specs.declared.record.Change.{Change}
use Rattle.rv_hart.specs.Privileged.{lazy_address, rd_told, reads_csr, csr_result, old_value, write_csr, csr_exchanged, csr_granted}
use Rattle.rv_hart.specs.Sighted.{answer_seen, sighted}
use Rattle.rv_hart.specs.View.{known, fixed_of}

pub own_address : (csrs : CsrValues) (register : LazyRegister) → lazy_value_at csrs (lazy_address register) ≡ lazy_value csrs register
own_address csrs register = at_own_address csrs register

-- the old value of a register is asked for as the hart has it
pub old_told : (words : ℕ → ℕ → Option ℕ) (h : Hart) (at : ℕ → Seen) (register : Register) (next : ℕ → Script Change)
    → answer_seen (sighted words) (known h at) (old_value (fixed_of h at) register >>= next) ≡ on_told (value_of h.csrs register) (Csr (address_of register)) (λ v. answer_seen (sighted words) (known h at) (next v))
old_told words h at Sstatus next = refl
old_told words h at Satp next = refl
old_told words h at Mstatus next = refl
old_told words h at Medeleg next = refl
old_told words h at Mhartid next = refl
old_told words h at (Lazy register) next =
    ap (λ (o : Option ℕ). let a : Answer Access Change = on_told o (Csr (lazy_address register)) (λ v. answer_seen (sighted words) (known h at) (next v)) in a) (at_own_address h.csrs register)

-- a write of what comes of the old value, which is known
pub exchanged : (words : ℕ → ℕ → Option ℕ) (h : Hart) (at : ℕ → Seen) (word : ℕ) (i : Instr) (writes : Bool) (register : Register) (operand old : ℕ) (rd : Option (ℕ × ℕ)) (value : ℕ)
    → reads_csr i ≡ true → value_of h.csrs register ≡ Some old → writes ≡ true → rd ≡ rd_told i.rd old → value ≡ csr_result i.op old operand
    → answer_seen (sighted words) (known h at) (write_csr (fixed_of h at) word rd register value) ≡ answer_seen (sighted words) (known h at) (csr_granted (fixed_of h at) word i writes register operand)
unfolding csr_granted
exchanged words h at word i writes register operand old rd value reads is wrote rd_is value_is =
    let f = fixed_of h at in
    let next : ℕ → Script Change = λ v. csr_exchanged f word i writes register operand v in
    ap (λ (r : Option (ℕ × ℕ)). answer_seen (sighted words) (known h at) (write_csr f word r register value)) rd_is
    ∙ ap (λ (v : ℕ). answer_seen (sighted words) (known h at) (write_csr f word (rd_told i.rd old) register v)) value_is
    ∙ ap (λ (w : Bool). answer_seen (sighted words) (known h at) (csr_exchanged f word i w register operand old)) (sym wrote)
    ∙ ap (λ (o : Option ℕ). on_told o (Csr (address_of register)) (λ v. answer_seen (sighted words) (known h at) (next v))) (sym is)
    ∙ sym (old_told words h at register next)
    ∙ ap (λ (b : Bool). answer_seen (sighted words) (known h at) (if b then old_value f register >>= next else write_csr f word None register operand)) (sym reads)
