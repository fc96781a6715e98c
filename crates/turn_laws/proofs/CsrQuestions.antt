-- The CSRs that a step asks for, by what it asks them for: a trap asks for a vector, and instructions for the value of a CSR.
use Rattle.std.proofs.Common.{◌≡◌, ℕ, if◌then◌else◌, ◌⊎◌, ◌%◌, Bool, true, false, eqb, Option, Some, None, refl, sym, subst, inl, inr}
use Rattle.rv_isa.specs.declared.instruction.Instr.{Instr}
use Rattle.rv_isa.specs.declared.table.Row.{Row}
use Rattle.rv_isa.specs.declared.table.Row.TheVariants.{R, I, Shift, S, B, U, J, Csr as CsrRow, CsrImmediate, FenceSets, AddressFence, Fixed as Whole, DefinedIllegal}
use Rattle.rv_isa.specs.Fields.{reads_rs2}
use Rattle.rv_isa.specs.Reading.{decoded}
use Rattle.rv_isa.specs.Table.{row_of}
use Rattle.rv_csr.specs.declared.access.CsrAccess.{CsrAccess}
use Rattle.rv_csr.specs.declared.access.CsrAccess.TheVariants.{Granted, Denied, Outside as NotModelled}
use Rattle.rv_csr.specs.declared.cause.Cause.{Cause}
use Rattle.rv_csr.specs.declared.privilege.Priv.{Priv}
use Rattle.rv_csr.specs.declared.privilege.Priv.TheVariants.{U as User, S as Supervisor, M as Machine}
use Rattle.rv_csr.specs.declared.status.Flag.TheVariants.{Tsr}
use Rattle.rv_csr.specs.declared.table.Register.{Register}
use Rattle.rv_csr.specs.declared.table.Register.TheVariants.{Sstatus, Satp, Mstatus, Medeleg, Mhartid, Lazy}
use Rattle.rv_csr.specs.Causes.{number_of}
use Rattle.rv_csr.specs.Privilege.{is_machine}
use Rattle.rv_csr.specs.Traps.{takes_trap, vector_register}
use Rattle.rv_script.specs.Labels.{Asks}
use Rattle.rv_script.specs.Logs.{is_word}
use Rattle.rv_script.specs.Script.{Label, Label.FromCsr, Label.FromVector, Label.FromRs1, Label.FromRs2, Question, Question.OfRegister, Question.OfCsr, Question.OfMemory, Question.ToMemory, place_of, Script, Script.Ask, Script.Outside, Script.Done, ◌>>=◌}
use Rattle.rv_script.proofs.Results.{asks_then}
use Rattle.sv_walk.specs.declared.entry.Kind.{Kind}
use Rattle.sv_walk.specs.declared.entry.Kind.TheVariants.{Fetch as ForFetch, Load as ForLoad, Store as ForStore}
use Rattle.sv_walk.specs.declared.entry.View.{View}
use Rattle.sv_walk.specs.Translation.{Reached, At, Fails, translated}
use Rattle.sv_walk.proofs.Plain.{Plain, translated_plain}
use Rattle.rv_hart.specs.declared.record.Change.{Change}
use Rattle.rv_hart.specs.Fixed.{Fixed}
use Rattle.rv_hart.specs.Machine.{arriving, at_address, data_view, effect, fetch_view, fetched_at, instruction, jumped, load_at, load_from, reached, script, size_of, store_at, store_to, upper_row, upper_pc_row, jump_row, fence_row}
use Rattle.rv_hart.specs.Privileged.{address_fence_row, csr_accessed, csr_exchanged, csr_granted, csr_immediate_row, is_withheld, lazy_address, mret_row, old_value, sret_row, trap, write_csr}
use Rattle.rv_hart.specs.Rests.{after_access, ask_if, asks_rs1, csr_access, in_parts, rest}
use Rattle.rv_hart.proofs.Forms.{effect_in_parts}

-- stvec or mtvec for a trap, any CSR for an instruction, and none for anything else
abbrev pub IsCsrFor : Label → ℕ → Type 0
IsCsrFor FromCsr addr = Unit {0}
IsCsrFor FromVector addr = (addr ≡ 0x105) ⊎ (addr ≡ 0x305)
IsCsrFor _ addr = ⊥

abbrev pub AsksCsr : Question → Type 0
AsksCsr (OfRegister label n) = Unit {0}
AsksCsr (OfCsr label addr) = IsCsrFor label addr
AsksCsr (OfMemory label addr size) = Unit {0}
AsksCsr (ToMemory addr size value) = Unit {0}

abbrev Fine : Script Change → Type 0
Fine s = Asks AsksCsr s

if_asks : (b : Bool) (s t : Script Change) → Fine s → Fine t → Fine (if b then s else t)
if_asks true s t h k = h
if_asks false s t h k = k

-- ---- traps

vector_is : (p : Priv) → IsCsrFor FromVector (lazy_address (vector_register p))
vector_is User = inr refl
vector_is Supervisor = inl refl
vector_is Machine = inr refl

trap_asks : (f : Fixed) (word : ℕ) (cause : Cause) (value : ℕ) → Fine (trap f word cause value)
unfolding trap
trap_asks f word cause value = (vector_is (takes_trap f.medeleg f.privilege (number_of cause)), λ v. tt)

jumped_asks : (f : Fixed) (word : ℕ) (rd : Option (ℕ × ℕ)) (target : ℕ) → Fine (jumped f word rd target)
jumped_asks f word rd target = if_asks (eqb (target % 4) 0) _ _ tt (trap_asks f word _ target)

-- ---- memory

word_question : (q : Question) → is_word (place_of q) ≡ true → AsksCsr q
word_question (OfRegister label n) h = tt
word_question (OfCsr label addr) h = absurd (cc)
word_question (OfMemory label addr size) h = tt
word_question (ToMemory addr size value) h = tt

plain_asks : (s : Script Reached) → Plain s → Asks AsksCsr s
plain_asks (Ask q next) h = (word_question q h.0, λ v. plain_asks (next v) (h.1 v))
plain_asks Outside h = tt
plain_asks (Done r) h = tt

arriving_asks : (f : Fixed) (word va : ℕ) (next : ℕ → Script Change) (r : Reached) → ((pa : ℕ) → Fine (next pa)) → Fine (arriving f word va next r)
arriving_asks f word va next (At pa) k = k pa
arriving_asks f word va next (Fails cause) k = trap_asks f word cause va

address_asks : (f : Fixed) (word : ℕ) (v : View) (kind : Kind) (va : ℕ) (next : ℕ → Script Change) → ((pa : ℕ) → Fine (next pa)) → Fine (at_address f word v kind va next)
unfolding at_address
address_asks f word v kind va next k = asks_then AsksCsr (translated f.ram v kind va) (arriving f word va next) (plain_asks _ (translated_plain f.ram v kind va)) (λ r. arriving_asks f word va next r k)

reached_asks : (f : Fixed) (word : ℕ) (kind : Kind) (addr n : ℕ) (cause : Cause) (next : ℕ → Script Change) → ((pa : ℕ) → Fine (next pa)) → Fine (reached f word kind addr n cause next)
reached_asks f word kind addr n cause next k = if_asks (eqb (addr % n) 0) _ _ (address_asks f word (data_view f) kind addr next k) (trap_asks f word cause addr)

load_asks : (f : Fixed) (word : ℕ) (i : Instr) (addr : ℕ) → Fine (load_from f word i addr)
unfolding load_at
load_asks f word i addr = reached_asks f word ForLoad addr (size_of i.op) _ (load_at f word i) (λ pa. (tt, λ v. tt))

store_asks : (f : Fixed) (word : ℕ) (i : Instr) (addr value : ℕ) → Fine (store_to f word i addr value)
unfolding store_at
store_asks f word i addr value = reached_asks f word ForStore addr (size_of i.op) _ (store_at f word i value) (λ pa. (tt, λ v. tt))

-- ---- CSRs

write_asks : (f : Fixed) (word : ℕ) (rd : Option (ℕ × ℕ)) (register : Register) (value : ℕ) → Fine (write_csr f word rd register value)
write_asks f word rd register value = search (if_asks)

exchanged_asks : (f : Fixed) (word : ℕ) (i : Instr) (writes : Bool) (register : Register) (operand old : ℕ) → Fine (csr_exchanged f word i writes register operand old)
exchanged_asks f word i true register operand old = write_asks f word _ register _
exchanged_asks f word i false register operand old = tt

old_asks : (register : Register) (f : Fixed) (next : ℕ → Script Change) → ((v : ℕ) → Fine (next v)) → Fine (old_value f register >>= next)
old_asks (Lazy r) f next h = (tt, λ v. h v)
old_asks Sstatus f next h = h _
old_asks Satp f next h = h _
old_asks Mstatus f next h = h _
old_asks Medeleg f next h = h _
old_asks Mhartid f next h = h _

granted_asks : (f : Fixed) (word : ℕ) (i : Instr) (writes : Bool) (register : Register) (operand : ℕ) → Fine (csr_granted f word i writes register operand)
unfolding csr_granted
granted_asks f word i writes register operand =
    let h = old_asks register f (csr_exchanged f word i writes register operand) (λ old. exchanged_asks f word i writes register operand old) in
    search (if_asks, h, write_asks)

access_asks : (f : Fixed) (word : ℕ) (i : Instr) (access : CsrAccess) (a : ℕ) → Fine (after_access f word i access a)
access_asks f word i (Granted register) a = granted_asks f word i _ register a
access_asks f word i Denied a = trap_asks f word _ word
access_asks f word i NotModelled a = tt

immediate_asks : (f : Fixed) (word : ℕ) (i : Instr) (access : CsrAccess) (writes : Bool) → Fine (csr_accessed f word i writes access (Done i.imm))
immediate_asks f word i (Granted register) writes = granted_asks f word i writes register i.imm
immediate_asks f word i Denied writes = trap_asks f word _ word
immediate_asks f word i NotModelled writes = tt

mret_asks : (f : Fixed) (word : ℕ) → Fine (mret_row f word)
unfolding mret_row
mret_asks f word = if_asks (is_machine f.privilege) _ _ (tt, λ v. tt) (trap_asks f word _ word)

sret_asks : (f : Fixed) (word : ℕ) → Fine (sret_row f word)
unfolding sret_row
sret_asks f word = if_asks (is_withheld Tsr f) _ _ (trap_asks f word _ word) (tt, λ v. tt)

whole_asks : (bits : ℕ) (f : Fixed) (word : ℕ) (i : Instr) → Fine (effect (Whole bits) f word i)
whole_asks bits f word i =
    if_asks (eqb bits 0x0000_0073) _ _ (trap_asks f word _ 0)
    (if_asks (eqb bits 0x0010_0073) _ _ (trap_asks f word _ f.pc)
    (if_asks (eqb bits 0x3020_0073) _ _ (mret_asks f word)
    (if_asks (eqb bits 0x1020_0073) _ _ (sret_asks f word) tt)))

-- ---- instructions

rest_asks : (row : Row) (f : Fixed) (word : ℕ) (i : Instr) (a b : ℕ) → Fine (rest row f word i a b)
unfolding upper_row upper_pc_row jump_row fence_row csr_immediate_row address_fence_row
rest_asks (R opcode funct3 funct7) f word i a b = tt
rest_asks (Shift opcode funct3 funct7) f word i a b = tt
rest_asks (I opcode funct3) f word i a b = search (if_asks, load_asks, jumped_asks)
rest_asks (S opcode funct3) f word i a b = store_asks f word i _ b
rest_asks (B opcode funct3) f word i a b = search (if_asks, jumped_asks)
rest_asks (CsrRow opcode funct3) f word i a b = access_asks f word i (csr_access f i) a
rest_asks (U opcode) f word i a b = search (if_asks)
rest_asks (J opcode) f word i a b = search (if_asks, jumped_asks)
rest_asks (FenceSets opcode funct3) f word i a b = search (if_asks)
rest_asks (CsrImmediate opcode funct3) f word i a b = search (if_asks, immediate_asks)
rest_asks (AddressFence opcode funct3 funct7) f word i a b = search (if_asks, trap_asks)
rest_asks (Whole bits) f word i a b = whole_asks bits f word i
rest_asks DefinedIllegal f word i a b = trap_asks f word _ word

asked_if : (b : Bool) (q : Question) (next : ℕ → Script Change) → AsksCsr q → ((v : ℕ) → Fine (next v)) → Fine (ask_if b q next)
asked_if true q next h k = (h, k)
asked_if false q next h k = k 0

parts_asks : (row : Row) (f : Fixed) (word : ℕ) (i : Instr) → Fine (in_parts row f word i)
parts_asks row f word i =
    asked_if (asks_rs1 row f i) (OfRegister FromRs1 i.rs1) _ tt
    (λ a. asked_if (reads_rs2 row) (OfRegister FromRs2 i.rs2) _ tt
    (λ b. rest_asks row f word i a b))

instruction_asks : (f : Fixed) (word : ℕ) (o : Option Instr) → Fine (instruction f word o)
unfolding instruction
instruction_asks f word None = tt
instruction_asks f word (Some i) = subst (λ (s : Script Change). Fine s) (sym (effect_in_parts i.op f word i)) (parts_asks (row_of i.op) f word i)

fetched_asks : (f : Fixed) (pa : ℕ) → Fine (fetched_at f pa)
unfolding fetched_at
fetched_asks f pa = (tt, λ word. instruction_asks f word (decoded word))

pub asks_csrs : (f : Fixed) → Asks AsksCsr (script f)
unfolding script
asks_csrs f = address_asks f 0 (fetch_view f) ForFetch f.pc (fetched_at f) (λ pa. fetched_asks f pa)
