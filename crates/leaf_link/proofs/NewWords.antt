-- What the rest of a step without a data access asks for.
use Rattle.std.proofs.Common.{◌≡◌, ℕ, if◌then◌else◌, ◌||◌, Bool, true, false, eqb, Option, refl, sym, ap, ◌∙◌}
use Rattle.rv_isa.specs.declared.instruction.Instr.{Instr}
use Rattle.rv_isa.specs.declared.operation.Op.{Op}
use Rattle.rv_isa.specs.declared.operation.Op.TheVariants as ops
use Rattle.rv_isa.specs.declared.table.Row.{Row}
use Rattle.rv_isa.specs.declared.table.Row.TheVariants.{R, I, Shift, S, B, U, J, Csr as CsrRow, CsrImmediate, FenceSets, AddressFence, Fixed as Whole, DefinedIllegal}
use Rattle.rv_isa.specs.Fields.{is_store, has_address}
use Rattle.rv_isa.specs.Table.{row_of}
use Rattle.rv_csr.specs.declared.access.CsrAccess.{CsrAccess}
use Rattle.rv_csr.specs.declared.access.CsrAccess.TheVariants.{Granted, Denied, Outside as NotModelled}
use Rattle.rv_csr.specs.declared.cause.Cause.{Cause}
use Rattle.rv_csr.specs.declared.table.Register.{Register}
use Rattle.rv_csr.specs.declared.table.Register.TheVariants.{Sstatus, Satp, Mstatus, Medeleg, Mhartid, Lazy}
use Rattle.rv_csr.specs.Access.{access_of}
use Rattle.rv_script.specs.Labels.{Asks}
use Rattle.rv_script.specs.Script.{Question, Question.OfRegister, Question.OfCsr, Question.OfMemory, Question.ToMemory, Script, Script.Done, ◌>>=◌}
use Rattle.rv_hart.specs.declared.record.Change.{Change}
use Rattle.rv_hart.specs.Fixed.{Fixed}
use Rattle.sv_walk.specs.declared.entry.Kind.{Kind}
use Rattle.sv_walk.specs.declared.entry.View.{View}
use Rattle.sv_walk.specs.Translation.{arrived, is_translated, translated}
use Rattle.rv_hart.specs.Machine.{fence_row, jump_row, jumped, upper_pc_row, upper_row}
use Rattle.rv_hart.specs.Privileged.{address_fence_row, csr_accessed, csr_exchanged, csr_granted, csr_immediate_row, mret_row, old_value, sret_row, trap, write_csr, writes_csr}
use Rattle.rv_hart.specs.Rests.{after_access, csr_access, rest}

-- ---- what a rest asks for

abbrev pub IsForCsr : Question → Type 0
IsForCsr (OfCsr label addr) = Unit {0}
IsForCsr (OfRegister label n) = ⊥
IsForCsr (OfMemory label addr size) = ⊥
IsForCsr (ToMemory addr size value) = ⊥

if_csrs : (b : Bool) (s t : Script Change) → Asks IsForCsr s → Asks IsForCsr t → Asks IsForCsr (if b then s else t)
if_csrs true s t h k = h
if_csrs false s t h k = k

pub trap_csrs : (f : Fixed) (word : ℕ) (cause : Cause) (value : ℕ) → Asks IsForCsr (trap f word cause value)
unfolding trap
trap_csrs f word cause value = (tt, λ v. tt)

jumped_csrs : (f : Fixed) (word : ℕ) (rd : Option (ℕ × ℕ)) (target : ℕ) → Asks IsForCsr (jumped f word rd target)
jumped_csrs f word rd target = search (if_csrs, trap_csrs, tt)

write_csrs : (f : Fixed) (word : ℕ) (rd : Option (ℕ × ℕ)) (register : Register) (value : ℕ) → Asks IsForCsr (write_csr f word rd register value)
write_csrs f word rd register value = search (if_csrs, tt)

exchanged_csrs : (f : Fixed) (word : ℕ) (i : Instr) (writes : Bool) (register : Register) (operand old : ℕ) → Asks IsForCsr (csr_exchanged f word i writes register operand old)
exchanged_csrs f word i true register operand old = write_csrs f word _ register _
exchanged_csrs f word i false register operand old = tt

value_csrs : (register : Register) (f : Fixed) (next : ℕ → Script Change) → ((v : ℕ) → Asks IsForCsr (next v)) → Asks IsForCsr (old_value f register >>= next)
value_csrs (Lazy r) f next h = (tt, λ v. h v)
value_csrs Sstatus f next h = h _
value_csrs Satp f next h = h _
value_csrs Mstatus f next h = h _
value_csrs Medeleg f next h = h _
value_csrs Mhartid f next h = h _

granted_csrs : (f : Fixed) (word : ℕ) (i : Instr) (writes : Bool) (register : Register) (operand : ℕ) → Asks IsForCsr (csr_granted f word i writes register operand)
unfolding csr_granted
granted_csrs f word i writes register operand = let h = value_csrs register f (csr_exchanged f word i writes register operand) (λ old. exchanged_csrs f word i writes register operand old) in search (if_csrs, h, write_csrs)

access_csrs : (f : Fixed) (word : ℕ) (i : Instr) (access : CsrAccess) (a : ℕ) → Asks IsForCsr (after_access f word i access a)
access_csrs f word i (Granted register) a = granted_csrs f word i _ register a
access_csrs f word i Denied a = trap_csrs f word _ word
access_csrs f word i NotModelled a = tt

immediate_csrs : (f : Fixed) (word : ℕ) (i : Instr) (access : CsrAccess) (writes : Bool) → Asks IsForCsr (csr_accessed f word i writes access (Done i.imm))
immediate_csrs f word i (Granted register) writes = granted_csrs f word i writes register i.imm
immediate_csrs f word i Denied writes = trap_csrs f word _ word
immediate_csrs f word i NotModelled writes = tt

mret_csrs : (f : Fixed) (word : ℕ) → Asks IsForCsr (mret_row f word)
unfolding mret_row
mret_csrs f word = search (if_csrs, trap_csrs, tt)

sret_csrs : (f : Fixed) (word : ℕ) → Asks IsForCsr (sret_row f word)
unfolding sret_row
sret_csrs f word = search (if_csrs, trap_csrs, tt)

-- the rows of the S format are those of stores
abbrev is_store_format : Row → Bool
is_store_format (S opcode funct3) = true
is_store_format _ = false

store_rows : (op : Op) → is_store_format (row_of op) ≡ is_store (row_of op)
store_rows ops.Sb = refl
store_rows _ = refl

no_store : (op : Op) (opcode funct3 : ℕ) → row_of op ≡ S opcode funct3 → has_address (S opcode funct3) ≡ false → ⊥
no_store op opcode funct3 is none = (let store : true ≡ is_store (S opcode funct3) = ap is_store_format (sym is) ∙ store_rows op ∙ ap is_store is in absurd (cc (store ∙ none)))

no_load : (b c : Bool) → (b || c) ≡ false → b ≡ false
no_load true c h = absurd (cc)
no_load false c h = refl

pub rest_csrs : (row : Row) (f : Fixed) (word : ℕ) (i : Instr) (a b : ℕ) → row_of i.op ≡ row → has_address row ≡ false → Asks IsForCsr (rest row f word i a b)
unfolding upper_row upper_pc_row jump_row fence_row csr_immediate_row address_fence_row
rest_csrs (R opcode funct3 funct7) f word i a b is none = tt
rest_csrs (Shift opcode funct3 funct7) f word i a b is none = tt
rest_csrs (I opcode funct3) f word i a b is none = rw (no_load (eqb opcode 0x03) false none) (if_csrs (eqb opcode 0x13) _ _ tt (jumped_csrs f word _ _))
rest_csrs (S opcode funct3) f word i a b is none = absurd (no_store i.op opcode funct3 is none)
rest_csrs (B opcode funct3) f word i a b is none = search (if_csrs, jumped_csrs, tt)
rest_csrs (CsrRow opcode funct3) f word i a b is none = access_csrs f word i (csr_access f i) a
rest_csrs (U opcode) f word i a b is none = search (if_csrs, tt)
rest_csrs (J opcode) f word i a b is none = search (if_csrs, jumped_csrs, tt)
rest_csrs (FenceSets opcode funct3) f word i a b is none = search (if_csrs, tt)
rest_csrs (CsrImmediate opcode funct3) f word i a b is none = if_csrs (eqb opcode 0x73) _ _ (immediate_csrs f word i (access_of f.mstatus i.csr f.privilege (writes_csr i.op i.imm)) (writes_csr i.op i.imm)) tt
rest_csrs (AddressFence opcode funct3 funct7) f word i a b is none = search (if_csrs, trap_csrs, tt)
rest_csrs (Whole bits) f word i a b is none =
    if_csrs (eqb bits 0x0000_0073) _ _ (trap_csrs f word _ 0)
    (if_csrs (eqb bits 0x0010_0073) _ _ (trap_csrs f word _ f.pc)
    (if_csrs (eqb bits 0x3020_0073) _ _ (mret_csrs f word)
    (if_csrs (eqb bits 0x1020_0073) _ _ (sret_csrs f word) tt)))
rest_csrs DefinedIllegal f word i a b is none = trap_csrs f word _ word

-- ---- a translation without tables

pub without : (ram : ℕ → Bool) (v : View) (kind : Kind) (va : ℕ) → is_translated v ≡ false → translated ram v kind va ≡ Done (arrived ram kind va)
unfolding translated
without ram v kind va h = rw h refl
