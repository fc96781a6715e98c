-- Every instruction is its source registers and a rest, and every step asks in order.
use Rattle.std.proofs.Common.{◌≡◌, ℕ, ◌≤◌, Bool, true, false, Option, Some, None, refl, sym, subst, arith}
use Rattle.rv_isa.specs.declared.instruction.Instr.{Instr}
use Rattle.rv_isa.specs.declared.operation.Op.{Op}
use Rattle.rv_isa.specs.declared.operation.Op.TheVariants.{Csrrw, Csrrs, Csrrc}
use Rattle.rv_isa.specs.declared.table.Row.{Row}
use Rattle.rv_isa.specs.declared.table.Row.TheVariants.{R, I, Shift, S, B, U, J, Csr as CsrRow, CsrImmediate, FenceSets, AddressFence, Fixed as Whole, DefinedIllegal}
use Rattle.rv_isa.specs.Fields.{reads_rs2}
use Rattle.rv_isa.specs.Reading.{decoded}
use Rattle.rv_isa.specs.Table.{row_of}
use Rattle.rv_csr.specs.declared.access.CsrAccess.{CsrAccess}
use Rattle.rv_csr.specs.declared.access.CsrAccess.TheVariants.{Granted, Denied, Outside as NotModelled}
use Rattle.rv_csr.specs.declared.cause.Cause.{Cause}
use Rattle.rv_csr.specs.declared.table.Register.{Register}
use Rattle.rv_csr.specs.declared.table.Register.TheVariants.{Sstatus, Satp, Mstatus, Medeleg, Mhartid, Lazy}
use Rattle.rv_script.specs.Script.{Label.FromRs1, Label.FromRs2, Label.FromCsr, Question.OfCsr, Question.OfRegister, Script, Script.Ask, Script.Done, ◌>>=◌, register}
use Rattle.rv_hart.specs.declared.record.Change.{Change}
use Rattle.rv_hart.specs.Fixed.{Fixed}
use Rattle.rv_hart.specs.Machine.{arriving, at_address, branch_row, data_view, effect, fence_row, fetch_view, fetched_at, immediate_row, instruction, jump_register_row, jump_row, jumped, load_at, load_from, load_row, reached, register_row, script, store_at, store_row, store_to, upper_pc_row, upper_row}
use Rattle.rv_hart.specs.Privileged.{address_fence_row, csr_accessed, csr_exchanged, csr_granted, csr_immediate_row, csr_row, mret_row, old_value, sret_row, trap, write_csr, writes_csr}
use Rattle.sv_walk.specs.declared.entry.Kind.{Kind}
use Rattle.sv_walk.specs.declared.entry.Kind.TheVariants.{Fetch as ForFetch, Load as ForLoad, Store as ForStore}
use Rattle.sv_walk.specs.declared.entry.View.{View}
use Rattle.sv_walk.specs.Translation.{Reached, At, Fails, translated, root_label, second_label}
use Rattle.rv_script.specs.Labels.{label_number, Between}
use Rattle.rv_hart.specs.Rests.{ask_if, is_granted, csr_access, asks_rs1, after_access, rest, in_parts}
use Rattle.rv_script.proofs.Plays.{lower, between_then}
use Rattle.sv_walk.proofs.Orders.{if_between, translated_between}

-- THE NORMAL FORM
csr_in_parts : (f : Fixed) (word : ℕ) (i : Instr) (access : CsrAccess)
    → csr_accessed f word i (writes_csr i.op i.rs1) access (register FromRs1 i.rs1) ≡ ask_if (is_granted access) (OfRegister FromRs1 i.rs1) (λ a. after_access f word i access a)
csr_in_parts f word i (Granted register) = refl
csr_in_parts f word i Denied = refl
csr_in_parts f word i NotModelled = refl

pub effect_in_parts : (op : Op) (f : Fixed) (word : ℕ) (i : Instr) → effect (row_of op) f word i ≡ in_parts (row_of op) f word i
unfolding upper_row upper_pc_row jump_row jump_register_row branch_row load_row store_row immediate_row register_row fence_row csr_row csr_immediate_row mret_row sret_row address_fence_row
effect_in_parts Csrrw f word i = csr_in_parts f word i (csr_access f i)
effect_in_parts Csrrs f word i = csr_in_parts f word i (csr_access f i)
effect_in_parts Csrrc f word i = csr_in_parts f word i (csr_access f i)
effect_in_parts _ f word i = refl

-- THE ORDER OF QUESTIONS
pub trap_between : (n : ℕ) (f : Fixed) (word : ℕ) (cause : Cause) (value : ℕ) → n ≤ 9 → Between n 10 (trap f word cause value)
unfolding trap
trap_between n f word cause value h = (h, omega arith, refl, λ v. tt)

arriving_between : (n : ℕ) (f : Fixed) (word va : ℕ) (next : ℕ → Script Change) (r : Reached) → n ≤ 9 → ((pa : ℕ) → Between n 10 (next pa)) → Between n 10 (arriving f word va next r)
arriving_between n f word va next (At pa) h k = k pa
arriving_between n f word va next (Fails cause) h k = trap_between n f word cause va h

-- of a load or store
data_between : (kind : Kind) (f : Fixed) (word : ℕ) (v : View) (va : ℕ) (next : ℕ → Script Change) → label_number (root_label kind) ≡ 6 → label_number (second_label kind) ≡ 7 → ((pa : ℕ) → Between 8 10 (next pa)) → Between 6 10 (at_address f word v kind va next)
unfolding at_address
data_between kind f word v va next one two k =
    between_then 6 8 10 (translated f.ram v kind va) (arriving f word va next) (translated_between 6 f.ram v kind va one two) (omega arith) (omega arith) (λ r. arriving_between 8 f word va next r (omega arith) k)

reached_between : (kind : Kind) (f : Fixed) (word addr size : ℕ) (cause : Cause) (next : ℕ → Script Change) → label_number (root_label kind) ≡ 6 → label_number (second_label kind) ≡ 7 → ((pa : ℕ) → Between 8 10 (next pa)) → Between 5 10 (reached f word kind addr size cause next)
reached_between kind f word addr size cause next one two k = let h = lower 6 5 10 (at_address f word (data_view f) kind addr next) (omega arith) (data_between kind f word (data_view f) addr next one two k) in search (if_between, trap_between, h, arith)

load_between : (f : Fixed) (word : ℕ) (i : Instr) (addr : ℕ) → Between 5 10 (load_from f word i addr)
unfolding load_at
load_between f word i addr = reached_between ForLoad f word addr _ _ (load_at f word i) refl refl (λ pa. (omega arith, omega arith, refl, λ v. tt))

store_between : (f : Fixed) (word : ℕ) (i : Instr) (addr value : ℕ) → Between 5 10 (store_to f word i addr value)
unfolding store_at
store_between f word i addr value = reached_between ForStore f word addr _ _ (store_at f word i value) refl refl (λ pa. (omega arith, omega arith, refl, λ v. tt))

jumped_between : (f : Fixed) (word : ℕ) (rd : Option (ℕ × ℕ)) (target : ℕ) → Between 5 10 (jumped f word rd target)
jumped_between f word rd target = search (if_between, trap_between, arith)

write_between : (n : ℕ) (f : Fixed) (word : ℕ) (rd : Option (ℕ × ℕ)) (register : Register) (value : ℕ) → Between n 10 (write_csr f word rd register value)
write_between n f word rd register value = search (if_between)

exchanged_between : (n : ℕ) (f : Fixed) (word : ℕ) (i : Instr) (writes : Bool) (register : Register) (operand old : ℕ) → Between n 10 (csr_exchanged f word i writes register operand old)
exchanged_between n f word i true register operand old = write_between n f word _ register _
exchanged_between n f word i false register operand old = tt

old_between : (register : Register) (f : Fixed) (next : ℕ → Script Change) → ((v : ℕ) → Between 6 10 (next v)) → Between 5 10 (old_value f register >>= next)
old_between (Lazy r) f next h = (omega arith, omega arith, refl, λ v. h v)
old_between Sstatus f next h = lower 6 5 10 _ (omega arith) (h _)
old_between Satp f next h = lower 6 5 10 _ (omega arith) (h _)
old_between Mstatus f next h = lower 6 5 10 _ (omega arith) (h _)
old_between Medeleg f next h = lower 6 5 10 _ (omega arith) (h _)
old_between Mhartid f next h = lower 6 5 10 _ (omega arith) (h _)

granted_between : (f : Fixed) (word : ℕ) (i : Instr) (writes : Bool) (register : Register) (operand : ℕ) → Between 5 10 (csr_granted f word i writes register operand)
unfolding csr_granted
granted_between f word i writes register operand = let h = old_between register f (csr_exchanged f word i writes register operand) (λ old. exchanged_between 6 f word i writes register operand old) in search (if_between, h, write_between)

access_between : (f : Fixed) (word : ℕ) (i : Instr) (access : CsrAccess) (a : ℕ) → Between 5 10 (after_access f word i access a)
access_between f word i (Granted register) a = granted_between f word i _ register a
access_between f word i Denied a = trap_between 5 f word _ word (omega arith)
access_between f word i NotModelled a = tt

immediate_between : (f : Fixed) (word : ℕ) (i : Instr) (access : CsrAccess) (writes : Bool) → Between 5 10 (csr_accessed f word i writes access (Done i.imm))
immediate_between f word i (Granted register) writes = granted_between f word i writes register i.imm
immediate_between f word i Denied writes = trap_between 5 f word _ word (omega arith)
immediate_between f word i NotModelled writes = tt

from_csr : (addr : ℕ) (f : ℕ → Change) → Between 5 10 (Ask (OfCsr FromCsr addr) (λ v. Done (f v)))
from_csr addr f = (omega arith, omega arith, refl, λ v. tt)

-- what follows the source registers asks for no register
pub rest_between : (row : Row) (f : Fixed) (word : ℕ) (i : Instr) (a b : ℕ) → Between 5 10 (rest row f word i a b)
unfolding upper_row upper_pc_row jump_row fence_row csr_immediate_row mret_row sret_row address_fence_row
rest_between (R opcode funct3 funct7) f word i a b = tt
rest_between (Shift opcode funct3 funct7) f word i a b = tt
rest_between (I opcode funct3) f word i a b = search (if_between, load_between, jumped_between)
rest_between (S opcode funct3) f word i a b = store_between f word i _ b
rest_between (B opcode funct3) f word i a b = search (if_between, jumped_between)
rest_between (CsrRow opcode funct3) f word i a b = access_between f word i (csr_access f i) a
rest_between (U opcode) f word i a b = search (if_between)
rest_between (J opcode) f word i a b = search (if_between, jumped_between)
rest_between (FenceSets opcode funct3) f word i a b = search (if_between)
rest_between (CsrImmediate opcode funct3) f word i a b = search (if_between, immediate_between)
rest_between (AddressFence opcode funct3 funct7) f word i a b = search (if_between, trap_between, arith)
rest_between (Whole bits) f word i a b = search (if_between, trap_between, from_csr, arith)
rest_between DefinedIllegal f word i a b = trap_between 5 f word _ word (omega arith)

second_between : (b : Bool) (n : ℕ) (next : ℕ → Script Change) → ((v : ℕ) → Between 5 10 (next v)) → Between 4 10 (ask_if b (OfRegister FromRs2 n) next)
second_between true n next h = (omega arith, omega arith, refl, λ v. h v)
second_between false n next h = lower 5 4 10 (next 0) (omega arith) (h 0)

first_between : (b : Bool) (n : ℕ) (next : ℕ → Script Change) → ((v : ℕ) → Between 4 10 (next v)) → Between 3 10 (ask_if b (OfRegister FromRs1 n) next)
first_between true n next h = (omega arith, omega arith, refl, λ v. h v)
first_between false n next h = lower 4 3 10 (next 0) (omega arith) (h 0)

parts_between : (row : Row) (f : Fixed) (word : ℕ) (i : Instr) → Between 3 10 (in_parts row f word i)
parts_between row f word i = first_between (asks_rs1 row f i) i.rs1 _ (λ a. second_between (reads_rs2 row) i.rs2 _ (λ b. rest_between row f word i a b))

instruction_between : (f : Fixed) (word : ℕ) (o : Option Instr) → Between 3 10 (instruction f word o)
unfolding instruction
instruction_between f word None = tt
instruction_between f word (Some i) = subst (λ (s : Script Change). Between 3 10 s) (sym (effect_in_parts i.op f word i)) (parts_between (row_of i.op) f word i)

pub fetched_between : (f : Fixed) (pa : ℕ) → Between 2 10 (fetched_at f pa)
unfolding fetched_at
fetched_between f pa = (omega arith, omega arith, refl, λ word. instruction_between f word (decoded word))

-- a step asks in order
pub script_between : (f : Fixed) → Between 0 10 (script f)
unfolding script at_address
script_between f =
    between_then 0 2 10 (translated f.ram (fetch_view f) ForFetch f.pc) (arriving f 0 f.pc (fetched_at f)) (translated_between 0 f.ram (fetch_view f) ForFetch f.pc refl refl) (omega arith) (omega arith)
    (λ r. arriving_between 2 f 0 f.pc (fetched_at f) r (omega arith) (fetched_between f))
