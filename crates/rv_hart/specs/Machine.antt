-- The machine: what one instruction asks and does.
use Rattle.std.specs.Prelude.{ℕ, ◌+◌, ◌-◌, ◌%◌, ◌^◌, nat_eq, if◌then◌else◌, Option, Some, None}
use Rattle.rv_isa.specs.declared.instruction.Instr.{Instr}
use Rattle.rv_isa.specs.declared.operation.Op.{Op}
use Rattle.rv_isa.specs.declared.operation.Op.TheVariants.{Lb, Lh, Lbu, Lhu, Sb, Sh}
use Rattle.rv_isa.specs.declared.table.Row.{Row}
use Rattle.rv_isa.specs.declared.table.Row.TheVariants.{R, I, Shift, S, B, U, J, Csr, CsrImmediate, FenceSets, AddressFence, Fixed as Whole, DefinedIllegal}
use Rattle.rv_isa.specs.Arithmetic.{alu_result, is_taken}
use Rattle.rv_isa.specs.Encoding.{sign_extended}
use Rattle.rv_isa.specs.Reading.{decoded}
use Rattle.rv_isa.specs.Table.{row_of}
use Rattle.rv_csr.specs.declared.cause.Cause.{Cause}
use Rattle.rv_csr.specs.declared.cause.Cause.TheVariants.{FetchMisaligned, LoadMisaligned, StoreMisaligned}
use Rattle.rv_csr.specs.declared.privilege.Priv.{Priv}
use Rattle.rv_csr.specs.declared.status.Flag.TheVariants.{Mxr, Sum}
use Rattle.rv_csr.specs.Status.{effective_privilege, is_set}
use Rattle.rv_script.specs.Script.{Label.FromRs1, Label.FromRs2, Label.Fetched, Label.DataWord, Script, Script.Outside, Script.Done, ◌>>=◌, register, read, write}
use Rattle.sv_walk.specs.declared.entry.Kind.{Kind}
use Rattle.sv_walk.specs.declared.entry.Kind.TheVariants.{Fetch as ForFetch, Load as ForLoad, Store as ForStore}
use Rattle.sv_walk.specs.declared.entry.View.{View}
use Rattle.sv_walk.specs.Translation.{Reached, At, Fails, translated}
use Rattle.rv_hart.specs.declared.record.Change.{Change}
use Rattle.rv_hart.specs.declared.record.Control.TheVariants.{Stay}
use Rattle.rv_hart.specs.Fixed.{Fixed}
use Rattle.rv_hart.specs.Privileged.{rd_told, following, went, retired, trap, refused, call_row, break_row, csr_row, csr_immediate_row, mret_row, sret_row, address_fence_row}

-- what the translation of a fetch goes by, and that of a load or store: the latter have the privilege MPP where MPRV is 1 (Privileged, 3.1.6.3)
abbrev pub view_of : Fixed → Priv → View
view_of f privilege = record { satp = f.satp; privilege = privilege; sum = is_set Sum f.mstatus; mxr = is_set Mxr f.mstatus }

abbrev pub fetch_view : Fixed → View
fetch_view f = view_of f f.privilege

abbrev pub data_view : Fixed → View
data_view f = view_of f (effective_privilege f.mstatus f.privilege)

-- an address that leads nowhere traps, and the trap value is the virtual address (Privileged, 3.1.16)
abbrev pub arriving : Fixed → ℕ → ℕ → (ℕ → Script Change) → Reached → Script Change
arriving f word va next (At pa) = next pa
arriving f word va next (Fails cause) = trap f word cause va

-- an address is translated, and then accessed
unfoldable pub at_address : Fixed → ℕ → View → Kind → ℕ → (ℕ → Script Change) → Script Change
at_address f word v kind va next = translated f.ram v kind va >>= arriving f word va next

-- a jump; one to a target that is no multiple of 4 traps, and rd is not written (Unprivileged, 2.5)
abbrev pub jumped : Fixed → ℕ → Option (ℕ × ℕ) → ℕ → Script Change
jumped f word rd target = if nat_eq (target % 4) 0 then Done (went word rd Stay target) else trap f word FetchMisaligned target

-- LUI (Unprivileged, 2.4.1)
unfoldable pub upper_row : Fixed → ℕ → Instr → Script Change
upper_row f word i = Done (retired f.pc word (rd_told i.rd i.imm))

-- AUIPC (Unprivileged, 2.4.1)
unfoldable pub upper_pc_row : Fixed → ℕ → Instr → Script Change
upper_pc_row f word i = Done (retired f.pc word (rd_told i.rd ((f.pc + i.imm) % 2 ^ 32)))

-- JAL: the address of the next instruction goes to rd (Unprivileged, 2.5.1)
unfoldable pub jump_row : Fixed → ℕ → Instr → Script Change
jump_row f word i = jumped f word (rd_told i.rd (following f.pc)) ((f.pc + i.imm) % 2 ^ 32)

-- an address with bit 0 cleared
abbrev pub even : ℕ → ℕ
even addr = addr - addr % 2

-- JALR (Unprivileged, 2.5.1)
unfoldable pub jump_register_row : Fixed → ℕ → Instr → Script Change
jump_register_row f word i = do
  a ← register FromRs1 i.rs1
  jumped f word (rd_told i.rd (following f.pc)) (even ((a + i.imm) % 2 ^ 32))

-- a branch (Unprivileged, 2.5.2)
unfoldable pub branch_row : Fixed → ℕ → Instr → Script Change
branch_row f word i = do
  a ← register FromRs1 i.rs1
  b ← register FromRs2 i.rs2
  if is_taken i.op a b then jumped f word None ((f.pc + i.imm) % 2 ^ 32) else Done (retired f.pc word None)

-- how many bytes a load reads or a store writes (Unprivileged, 2.6)
abbrev pub size_of : Op → ℕ
size_of Lb = 1
size_of Lbu = 1
size_of Sb = 1
size_of Lh = 2
size_of Lhu = 2
size_of Sh = 2
size_of _ = 4

-- what a load writes to rd of the bytes that it reads (Unprivileged, 2.6)
abbrev pub loaded : Op → ℕ → ℕ
loaded Lb value = sign_extended 8 value
loaded Lh value = sign_extended 16 value
loaded _ value = value

-- an address that is no multiple of the size of its access traps before it is translated (Unprivileged, 2.6)
abbrev pub reached : Fixed → ℕ → Kind → ℕ → ℕ → Cause → (ℕ → Script Change) → Script Change
reached f word kind addr size misaligned access =
    if nat_eq (addr % size) 0 then at_address f word (data_view f) kind addr access else trap f word misaligned addr

-- a load from a physical address
unfoldable pub load_at : Fixed → ℕ → Instr → ℕ → Script Change
load_at f word i pa = do
  value ← read DataWord pa (size_of i.op)
  Done (retired f.pc word (rd_told i.rd (loaded i.op value)))

abbrev pub load_from : Fixed → ℕ → Instr → ℕ → Script Change
load_from f word i addr = reached f word ForLoad addr (size_of i.op) LoadMisaligned (load_at f word i)

-- a load (Unprivileged, 2.6)
unfoldable pub load_row : Fixed → ℕ → Instr → Script Change
load_row f word i = do
  a ← register FromRs1 i.rs1
  load_from f word i ((a + i.imm) % 2 ^ 32)

-- a store to a physical address
unfoldable pub store_at : Fixed → ℕ → Instr → ℕ → ℕ → Script Change
store_at f word i value pa = do
  stored ← write pa (size_of i.op) (value % 256 ^ size_of i.op)
  Done (retired f.pc word None)

abbrev pub store_to : Fixed → ℕ → Instr → ℕ → ℕ → Script Change
store_to f word i addr value = reached f word ForStore addr (size_of i.op) StoreMisaligned (store_at f word i value)

-- a store of the low bytes of rs2 (Unprivileged, 2.6)
unfoldable pub store_row : Fixed → ℕ → Instr → Script Change
store_row f word i = do
  a ← register FromRs1 i.rs1
  b ← register FromRs2 i.rs2
  store_to f word i ((a + i.imm) % 2 ^ 32) b

-- an operation on a register and an immediate (Unprivileged, 2.4.1)
unfoldable pub immediate_row : Fixed → ℕ → Instr → Script Change
immediate_row f word i = do
  a ← register FromRs1 i.rs1
  Done (retired f.pc word (rd_told i.rd (alu_result i.op a i.imm)))

-- an operation on two registers (Unprivileged, 2.4.2 and M)
unfoldable pub register_row : Fixed → ℕ → Instr → Script Change
register_row f word i = do
  a ← register FromRs1 i.rs1
  b ← register FromRs2 i.rs2
  Done (retired f.pc word (rd_told i.rd (alu_result i.op a b)))

-- FENCE: one hart sees its accesses in their order anyway (Unprivileged, 2.7)
unfoldable pub fence_row : Fixed → ℕ → Instr → Script Change
fence_row f word i = Done (retired f.pc word None)

-- what an instruction does, by the format and the opcode of its row of the table of encodings; the table has no other rows
abbrev pub effect : Row → Fixed → ℕ → Instr → Script Change
-- LUI and AUIPC
effect (U opcode) f word i = if nat_eq opcode 0x37 then upper_row f word i else if nat_eq opcode 0x17 then upper_pc_row f word i else Outside
-- JAL
effect (J opcode) f word i = if nat_eq opcode 0x6f then jump_row f word i else Outside
-- BRANCH
effect (B opcode funct3) f word i = if nat_eq opcode 0x63 then branch_row f word i else Outside
-- STORE
effect (S opcode funct3) f word i = if nat_eq opcode 0x23 then store_row f word i else Outside
-- OP-IMM, LOAD and JALR
effect (I opcode funct3) f word i =
    if nat_eq opcode 0x13 then immediate_row f word i
    else if nat_eq opcode 0x03 then load_row f word i
    else if nat_eq opcode 0x67 then jump_register_row f word i
    else Outside
-- OP-IMM
effect (Shift opcode funct3 funct7) f word i = if nat_eq opcode 0x13 then immediate_row f word i else Outside
-- OP
effect (R opcode funct3 funct7) f word i = if nat_eq opcode 0x33 then register_row f word i else Outside
-- MISC-MEM
effect (FenceSets opcode funct3) f word i = if nat_eq opcode 0x0f then fence_row f word i else Outside
-- SYSTEM
effect (Csr opcode funct3) f word i = if nat_eq opcode 0x73 then csr_row f word i else Outside
effect (CsrImmediate opcode funct3) f word i = if nat_eq opcode 0x73 then csr_immediate_row f word i else Outside
effect (AddressFence opcode funct3 funct7) f word i = if nat_eq opcode 0x73 then address_fence_row f word else Outside
-- ECALL, EBREAK, MRET and SRET
effect (Whole bits) f word i =
    if nat_eq bits 0x0000_0073 then call_row f word
    else if nat_eq bits 0x0010_0073 then break_row f word
    else if nat_eq bits 0x3020_0073 then mret_row f word
    else if nat_eq bits 0x1020_0073 then sret_row f word
    else Outside
-- all zeros and all ones (Unprivileged, 1.5)
effect DefinedIllegal f word i = refused f word

unfoldable pub instruction : Fixed → ℕ → Option Instr → Script Change
instruction f word None = Outside
instruction f word (Some i) = effect (row_of i.op) f word i

-- the fetch from a physical address, and what the fetched word does
unfoldable pub fetched_at : Fixed → ℕ → Script Change
fetched_at f pa = do
  word ← read Fetched pa 4
  instruction f word (decoded word)

-- one whole instruction; where its fetch fails, no word is fetched (Privileged, 4.3.2)
unfoldable pub script : Fixed → Script Change
script f = at_address f 0 (fetch_view f) ForFetch f.pc (fetched_at f)
