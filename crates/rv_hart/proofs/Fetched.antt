-- What a step gives in the end has the fetched word.
use Rattle.std.proofs.Common.{◌≡◌, ℕ, if◌then◌else◌, Bool, true, false, eqb, Option, None, refl}
use Rattle.rv_isa.specs.declared.instruction.Instr.{Instr}
use Rattle.rv_isa.specs.declared.table.Row.{Row}
use Rattle.rv_isa.specs.declared.table.Row.TheVariants.{R, I, Shift, S, B, U, J, Csr as CsrRow, CsrImmediate, FenceSets, AddressFence, Fixed as Whole, DefinedIllegal}
use Rattle.rv_csr.specs.declared.access.CsrAccess.{CsrAccess}
use Rattle.rv_csr.specs.declared.access.CsrAccess.TheVariants.{Granted, Denied, Outside as NotModelled}
use Rattle.rv_csr.specs.declared.cause.Cause.{Cause}
use Rattle.rv_csr.specs.declared.table.Register.{Register}
use Rattle.rv_csr.specs.declared.status.Flag.TheVariants.{Tsr, Tvm}
use Rattle.rv_csr.specs.declared.table.LazyRegister.TheVariants.{Mepc, Sepc}
use Rattle.rv_csr.specs.Privilege.{is_machine}
use Rattle.rv_script.specs.Script.{Label.FromCsr, Question.OfCsr, Script, Script.Ask, Script.Outside, Script.Done, ◌>>=◌}
use Rattle.sv_walk.specs.declared.entry.Kind.{Kind}
use Rattle.sv_walk.specs.declared.entry.Kind.TheVariants.{Load as ForLoad, Store as ForStore}
use Rattle.sv_walk.specs.declared.entry.View.{View}
use Rattle.sv_walk.specs.Translation.{Reached, At, Fails, translated}
use Rattle.rv_hart.specs.declared.record.Change.{Change}
use Rattle.rv_hart.specs.declared.record.Control.TheVariants.{Mret, Sret}
use Rattle.rv_hart.specs.Fixed.{Fixed}
use Rattle.rv_hart.specs.Machine.{arriving, at_address, data_view, fence_row, jump_row, jumped, load_at, load_from, reached, store_at, store_to, upper_pc_row, upper_row}
use Rattle.rv_hart.specs.Privileged.{address_fence_row, is_withheld, lazy_address, went, csr_accessed, csr_exchanged, csr_granted, csr_immediate_row, mret_row, old_value, refused, retired, sret_row, trap, write_csr}
use Rattle.rv_hart.specs.Rests.{after_access, csr_access, rest}
use Rattle.rv_script.proofs.Results.{Ends, ends_then}

-- the change has this word
abbrev pub HasWord : ℕ → Script Change → Type 0
HasWord word s = Ends (λ (c : Change). c.word ≡ word) s

if_has : (word : ℕ) (b : Bool) (s t : Script Change) → HasWord word s → HasWord word t → HasWord word (if b then s else t)
if_has word true s t h k = h
if_has word false s t h k = k

trap_has : (f : Fixed) (word : ℕ) (cause : Cause) (value : ℕ) → HasWord word (trap f word cause value)
unfolding trap
trap_has f word cause value v = refl

arriving_has : (f : Fixed) (word va : ℕ) (next : ℕ → Script Change) (r : Reached) → ((pa : ℕ) → HasWord word (next pa)) → HasWord word (arriving f word va next r)
arriving_has f word va next (At pa) k = k pa
arriving_has f word va next (Fails cause) k = trap_has f word cause va

data_has : (kind : Kind) (f : Fixed) (word : ℕ) (v : View) (va : ℕ) (next : ℕ → Script Change) → ((pa : ℕ) → HasWord word (next pa)) → HasWord word (at_address f word v kind va next)
unfolding at_address
data_has kind f word v va next k = ends_then (λ (c : Change). c.word ≡ word) (translated f.ram v kind va) (arriving f word va next) (λ r. arriving_has f word va next r k)

reached_has : (kind : Kind) (f : Fixed) (word addr size : ℕ) (cause : Cause) (next : ℕ → Script Change) → ((pa : ℕ) → HasWord word (next pa)) → HasWord word (reached f word kind addr size cause next)
reached_has kind f word addr size cause next k = let h = data_has kind f word (data_view f) addr next k in search (if_has, trap_has, h)

load_has : (f : Fixed) (word : ℕ) (i : Instr) (addr : ℕ) → HasWord word (load_from f word i addr)
unfolding load_at
load_has f word i addr = reached_has ForLoad f word addr _ _ (load_at f word i) (λ pa v. refl)

store_has : (f : Fixed) (word : ℕ) (i : Instr) (addr value : ℕ) → HasWord word (store_to f word i addr value)
unfolding store_at
store_has f word i addr value = reached_has ForStore f word addr _ _ (store_at f word i value) (λ pa v. refl)

jumped_has : (f : Fixed) (word : ℕ) (rd : Option (ℕ × ℕ)) (target : ℕ) → HasWord word (jumped f word rd target)
jumped_has f word rd target = let h : HasWord word (Done (Rattle.rv_hart.specs.Privileged.went word rd Rattle.rv_hart.specs.declared.record.Control.TheVariants.Stay target)) = refl in search (if_has, trap_has, h)

write_has : (f : Fixed) (word : ℕ) (rd : Option (ℕ × ℕ)) (register : Register) (value : ℕ) → HasWord word (write_csr f word rd register value)
write_has f word rd register value = if_has word (Rattle.rv_csr.specs.Table.is_legal register value) _ Outside refl tt

exchanged_has : (f : Fixed) (word : ℕ) (i : Instr) (writes : Bool) (register : Register) (operand old : ℕ) → HasWord word (csr_exchanged f word i writes register operand old)
exchanged_has f word i true register operand old = write_has f word _ register _
exchanged_has f word i false register operand old = refl

old_has : (register : Register) (f : Fixed) (word : ℕ) (next : ℕ → Script Change) → ((v : ℕ) → HasWord word (next v)) → HasWord word (old_value f register >>= next)
old_has register f word next h = ends_then (λ (c : Change). c.word ≡ word) (old_value f register) next h

granted_has : (f : Fixed) (word : ℕ) (i : Instr) (writes : Bool) (register : Register) (operand : ℕ) → HasWord word (csr_granted f word i writes register operand)
unfolding csr_granted
granted_has f word i writes register operand =
    if_has word (Rattle.rv_hart.specs.Privileged.reads_csr i) _ _ (old_has register f word (csr_exchanged f word i writes register operand) (λ old. exchanged_has f word i writes register operand old)) (write_has f word None register operand)

access_has : (f : Fixed) (word : ℕ) (i : Instr) (access : CsrAccess) (a : ℕ) → HasWord word (after_access f word i access a)
access_has f word i (Granted register) a = granted_has f word i _ register a
access_has f word i Denied a = trap_has f word _ word
access_has f word i NotModelled a = tt

immediate_has : (f : Fixed) (word : ℕ) (i : Instr) (access : CsrAccess) (writes : Bool) → HasWord word (csr_accessed f word i writes access (Done i.imm))
immediate_has f word i (Granted register) writes = granted_has f word i writes register i.imm
immediate_has f word i Denied writes = trap_has f word _ word
immediate_has f word i NotModelled writes = tt

done_has : (word : ℕ) (c : Change) → c.word ≡ word → HasWord word (Done c)
done_has word c h = h

mret_has : (f : Fixed) (word : ℕ) → HasWord word (mret_row f word)
unfolding mret_row
mret_has f word =
    let h : HasWord word (Ask (OfCsr FromCsr (lazy_address Mepc)) (λ target. Done (went word None Mret target))) = λ v. refl in
    if_has word (is_machine f.privilege) (Ask (OfCsr FromCsr (lazy_address Mepc)) (λ target. Done (went word None Mret target))) (refused f word) h (trap_has f word _ word)

sret_has : (f : Fixed) (word : ℕ) → HasWord word (sret_row f word)
unfolding sret_row
sret_has f word =
    let h : HasWord word (Ask (OfCsr FromCsr (lazy_address Sepc)) (λ target. Done (went word None Sret target))) = λ v. refl in
    if_has word (is_withheld Tsr f) (refused f word) (Ask (OfCsr FromCsr (lazy_address Sepc)) (λ target. Done (went word None Sret target))) (trap_has f word _ word) h

pub rest_has : (row : Row) (f : Fixed) (word : ℕ) (i : Instr) (a b : ℕ) → HasWord word (rest row f word i a b)
unfolding upper_row upper_pc_row jump_row fence_row csr_immediate_row address_fence_row
rest_has (R opcode funct3 funct7) f word i a b = refl
rest_has (Shift opcode funct3 funct7) f word i a b = refl
rest_has (I opcode funct3) f word i a b = if_has word (eqb opcode 0x13) _ _ refl (if_has word (eqb opcode 0x03) _ _ (load_has f word i _) (jumped_has f word _ _))
rest_has (S opcode funct3) f word i a b = store_has f word i _ b
rest_has (B opcode funct3) f word i a b = if_has word (Rattle.rv_isa.specs.Arithmetic.is_taken i.op a b) _ _ (jumped_has f word None _) refl
rest_has (CsrRow opcode funct3) f word i a b = access_has f word i (csr_access f i) a
rest_has (U opcode) f word i a b = if_has word (eqb opcode 0x37) _ _ refl (if_has word (eqb opcode 0x17) _ Outside refl tt)
rest_has (J opcode) f word i a b = if_has word (eqb opcode 0x6f) _ Outside (jumped_has f word _ _) tt
rest_has (FenceSets opcode funct3) f word i a b = if_has word (eqb opcode 0x0f) _ Outside refl tt
rest_has (CsrImmediate opcode funct3) f word i a b = if_has word (eqb opcode 0x73) _ Outside (immediate_has f word i _ _) tt
rest_has (AddressFence opcode funct3 funct7) f word i a b = if_has word (eqb opcode 0x73) _ Outside (if_has word (is_withheld Tvm f) (refused f word) (Done (retired f.pc word None)) (trap_has f word _ word) refl) tt
rest_has (Whole bits) f word i a b =
    if_has word (eqb bits 0x0000_0073) _ _ (trap_has f word _ 0)
    (if_has word (eqb bits 0x0010_0073) _ _ (trap_has f word _ f.pc)
    (if_has word (eqb bits 0x3020_0073) _ _ (mret_has f word)
    (if_has word (eqb bits 0x1020_0073) _ Outside (sret_has f word) tt)))
rest_has DefinedIllegal f word i a b = trap_has f word _ word
