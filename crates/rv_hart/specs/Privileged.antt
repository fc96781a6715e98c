-- What the machine does to control and status registers: traps, instructions that access a register, returns from traps.
use Rattle.std.specs.Prelude.{ℕ, ◌+◌, ◌-◌, ◌%◌, ◌^◌, Bool, true, false, ◌&&◌, ◌||◌, not, nat_eq, if◌then◌else◌, bit_and, bit_or, Option, Some, None}
use Rattle.std.specs.Option.{unwrap_or}
use Rattle.rv_isa.specs.declared.instruction.Instr.{Instr}
use Rattle.rv_isa.specs.declared.operation.Op.{Op}
use Rattle.rv_isa.specs.declared.operation.Op.TheVariants.{Csrrw, Csrrs, Csrrwi, Csrrsi}
use Rattle.rv_csr.specs.declared.access.CsrAccess.{CsrAccess}
use Rattle.rv_csr.specs.declared.access.CsrAccess.TheVariants.{Granted, Denied, Outside as NotModelled}
use Rattle.rv_csr.specs.declared.cause.Cause.{Cause}
use Rattle.rv_csr.specs.declared.cause.Cause.TheVariants.{Illegal, Breakpoint, CallFromU, CallFromS, CallFromM}
use Rattle.rv_csr.specs.declared.privilege.Priv.{Priv}
use Rattle.rv_csr.specs.declared.privilege.Priv.TheVariants.{U as User, S as Supervisor, M as Machine}
use Rattle.rv_csr.specs.declared.status.Flag.{Flag}
use Rattle.rv_csr.specs.declared.status.Flag.TheVariants.{Tsr, Tvm}
use Rattle.rv_csr.specs.declared.table.LazyRegister.{LazyRegister}
use Rattle.rv_csr.specs.declared.table.LazyRegister.TheVariants.{Mepc, Sepc}
use Rattle.rv_csr.specs.declared.table.Register.{Register}
use Rattle.rv_csr.specs.declared.table.Register.TheVariants.{Lazy}
use Rattle.rv_csr.specs.Access.{access_of}
use Rattle.rv_csr.specs.Causes.{number_of}
use Rattle.rv_csr.specs.Privilege.{is_machine, is_supervisor}
use Rattle.rv_csr.specs.State.{value_of}
use Rattle.rv_csr.specs.Status.{is_set}
use Rattle.rv_csr.specs.Table.{address_of, is_legal}
use Rattle.rv_csr.specs.Traps.{takes_trap, vector_register}
use Rattle.rv_script.specs.Script.{Label.FromRs1, Label.FromCsr, Label.FromVector, Script, Script.Outside, Script.Done, ◌>>=◌, csr, register}
use Rattle.rv_hart.specs.declared.record.Change.{Change}
use Rattle.rv_hart.specs.declared.record.Control.{Control}
use Rattle.rv_hart.specs.declared.record.Control.TheVariants.{Stay, Write, Trap, Mret, Sret}
use Rattle.rv_hart.specs.Fixed.{Fixed, fixed_csrs}

-- a write to x0 vanishes (Unprivileged, 2.1)
abbrev pub rd_told : ℕ → ℕ → Option (ℕ × ℕ)
rd_told rd value = if nat_eq rd 0 then None else Some (rd, value)

-- the instruction after the one at an address
abbrev pub following : ℕ → ℕ
following pc = (pc + 4) % 2 ^ 32

-- a step that goes on at an address
abbrev pub went : ℕ → Option (ℕ × ℕ) → Control → ℕ → Change
went word rd control target = record { word = word; rd = rd; next_pc = target; control = control }

-- an instruction that goes on to the next one
abbrev pub retired : ℕ → ℕ → Option (ℕ × ℕ) → Change
retired pc word rd = went word rd Stay (following pc)

abbrev pub lazy_address : LazyRegister → ℕ
lazy_address register = address_of (Lazy register)

-- a trap goes on at the vector of the privilege that takes it, and writes no register (Privileged, 3.1.7, 3.1.8 and 4.1.2)
unfoldable pub trap : Fixed → ℕ → Cause → ℕ → Script Change
trap f word cause value = do
  vector ← csr FromVector (lazy_address (vector_register (takes_trap f.medeleg f.privilege (number_of cause))))
  Done (went word None (Trap (number_of cause) value) vector)

-- an illegal instruction; the trap value is its word (Privileged, 3.1.16)
abbrev pub refused : Fixed → ℕ → Script Change
refused f word = trap f word Illegal word

-- ECALL, whose trap value is 0 (Privileged, 3.3.1 and 3.1.16)
abbrev pub call_cause : Priv → Cause
call_cause User = CallFromU
call_cause Supervisor = CallFromS
call_cause Machine = CallFromM

abbrev pub call_row : Fixed → ℕ → Script Change
call_row f word = trap f word (call_cause f.privilege) 0

-- EBREAK, whose trap value is the pc (Privileged, 3.3.1 and 3.1.16)
abbrev pub break_row : Fixed → ℕ → Script Change
break_row f word = trap f word Breakpoint f.pc

-- CSRRW and CSRRWI write their operand, the others set or clear its bits
abbrev pub is_swap : Op → Bool
is_swap Csrrw = true
is_swap Csrrwi = true
is_swap _ = false

-- they do not read where rd is x0, and the others always read (Unprivileged, Zicsr)
abbrev pub reads_csr : Instr → Bool
reads_csr i = not (is_swap i.op && nat_eq i.rd 0)

-- the others do not write where the field of the operand is 0 (Unprivileged, Zicsr)
abbrev pub writes_csr : Op → ℕ → Bool
writes_csr op field = is_swap op || not (nat_eq field 0)

-- what is written, of the old value and the operand (Unprivileged, Zicsr)
abbrev pub csr_result : Op → ℕ → ℕ → ℕ
csr_result Csrrw old operand = operand
csr_result Csrrwi old operand = operand
csr_result Csrrs old operand = bit_or old operand
csr_result Csrrsi old operand = bit_or old operand
csr_result _ old operand = bit_and old (2 ^ 32 - 1 - operand)

-- the value of a CSR; of a lazy one it is asked for
abbrev pub old_value : Fixed → Register → Script ℕ
old_value f (Lazy register) = csr FromCsr (lazy_address register)
old_value f register = Done (unwrap_or (value_of (fixed_csrs f) register) 0)

-- a value is written as it is where it is legal; the profile has no step that writes another one
abbrev pub write_csr : Fixed → ℕ → Option (ℕ × ℕ) → Register → ℕ → Script Change
write_csr f word rd register value = if is_legal register value then Done (went word rd (Write register value) (following f.pc)) else Outside

-- what is done with the old value, of which rd is told
abbrev pub csr_exchanged : Fixed → ℕ → Instr → Bool → Register → ℕ → ℕ → Script Change
csr_exchanged f word i true register operand old = write_csr f word (rd_told i.rd old) register (csr_result i.op old operand)
csr_exchanged f word i false register operand old = Done (retired f.pc word (rd_told i.rd old))

unfoldable pub csr_granted : Fixed → ℕ → Instr → Bool → Register → ℕ → Script Change
csr_granted f word i writes register operand =
    if reads_csr i
    then (do
      old ← old_value f register
      csr_exchanged f word i writes register operand old)
    else write_csr f word None register operand

-- the privilege is judged before the operand is asked for
abbrev pub csr_accessed : Fixed → ℕ → Instr → Bool → CsrAccess → Script ℕ → Script Change
csr_accessed f word i writes NotModelled operand = Outside
csr_accessed f word i writes Denied operand = refused f word
csr_accessed f word i writes (Granted register) operand = operand >>= csr_granted f word i writes register

-- CSRRW, CSRRS and CSRRC: the operand is rs1 (Unprivileged, Zicsr)
unfoldable pub csr_row : Fixed → ℕ → Instr → Script Change
csr_row f word i =
    let writes = writes_csr i.op i.rs1 in
    csr_accessed f word i writes (access_of f.mstatus i.csr f.privilege writes) (register FromRs1 i.rs1)

-- CSRRWI, CSRRSI and CSRRCI: it is the immediate (Unprivileged, Zicsr)
unfoldable pub csr_immediate_row : Fixed → ℕ → Instr → Script Change
csr_immediate_row f word i =
    let writes = writes_csr i.op i.imm in
    csr_accessed f word i writes (access_of f.mstatus i.csr f.privilege writes) (Done i.imm)

-- MRET, in M alone (Privileged, 3.3.2)
unfoldable pub mret_row : Fixed → ℕ → Script Change
mret_row f word =
    if is_machine f.privilege
    then (do
      target ← csr FromCsr (lazy_address Mepc)
      Done (went word None Mret target))
    else refused f word

-- an instruction for the supervisor is illegal in U, and in S while this flag is set
abbrev pub is_withheld : Flag → Fixed → Bool
is_withheld flag f = not (is_machine f.privilege) && (not (is_supervisor f.privilege) || is_set flag f.mstatus)

-- SRET (Privileged, 3.3.2 and 3.1.6.5)
unfoldable pub sret_row : Fixed → ℕ → Script Change
sret_row f word =
    if is_withheld Tsr f
    then refused f word
    else (do
      target ← csr FromCsr (lazy_address Sepc)
      Done (went word None Sret target))

-- SFENCE.VMA: there is nothing to order, since translations are read from memory at each access (Privileged, 4.2.1 and 3.1.6.5)
unfoldable pub address_fence_row : Fixed → ℕ → Script Change
address_fence_row f word = if is_withheld Tvm f then refused f word else Done (retired f.pc word None)
