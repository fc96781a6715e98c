-- The registers that the machine's steps ask for.
use Rattle.std.proofs.Common.{◌≡◌, ℕ, ◌%◌, ◌<◌, map, Bool, true, false, eqb, ◌∷◌, ◌||◌, Option, Some, None, if◌then◌else◌, refl, subst, inl, inr}
use Rattle.rv_isa.specs.declared.instruction.Instr.{Instr}
use Rattle.rv_isa.specs.declared.table.Row.{Row}
use Rattle.rv_isa.specs.declared.table.Row.TheVariants.{R, I, Shift, S, B, U, J, Csr as CsrRow, CsrImmediate, FenceSets, AddressFence, Fixed as Whole, DefinedIllegal}
use Rattle.rv_isa.specs.Encoding.{IsInRange}
use Rattle.rv_isa.specs.Reading.{decoded}
use Rattle.rv_isa.specs.Table.{row_of}
use Rattle.rv_isa.proofs.Codec.{encoded_read, fitting_in_range}
use Rattle.rv_isa.specs.Arithmetic.{is_taken}
use Rattle.rv_csr.specs.declared.access.CsrAccess.{CsrAccess}
use Rattle.rv_csr.specs.declared.access.CsrAccess.TheVariants.{Granted, Denied, Outside as NotModelled}
use Rattle.rv_csr.specs.declared.cause.Cause.{Cause}
use Rattle.rv_csr.specs.declared.status.Flag.TheVariants.{Tsr, Tvm}
use Rattle.rv_csr.specs.declared.table.Register.{Register}
use Rattle.rv_csr.specs.declared.table.Register.TheVariants.{Sstatus, Lazy}
use Rattle.rv_csr.specs.Privilege.{is_machine}
use Rattle.rv_csr.specs.Table.{is_legal}
use Rattle.rv_script.specs.declared.place.Place.{Place}
use Rattle.rv_script.specs.declared.place.Place.TheVariants.{Reg, Csr, Word}
use Rattle.rv_script.specs.Lists.{HasItem}
use Rattle.rv_script.specs.Script.{place_of, told, Script, Script.Ask, Script.Outside, Script.Done, ◌>>=◌}
use Rattle.rv_script.specs.Folds.{Entry, Sight, asked_of}
use Rattle.rv_hart.specs.declared.record.Change.{Change}
use Rattle.rv_hart.specs.Fixed.{Fixed}
use Rattle.sv_walk.specs.declared.entry.Kind.{Kind}
use Rattle.sv_walk.specs.declared.entry.View.{View}
use Rattle.sv_walk.specs.Entry.{is_invalid, is_pointer, is_reserved, is_unaligned, is_closed}
use Rattle.sv_walk.specs.Translation.{Reached, At, Fails, is_in_ram, second_address, from_pointer, from_root, is_translated, root_address, translated}
use Rattle.rv_hart.specs.Machine.{fetch_view, data_view, arriving, at_address, jumped, upper_row, upper_pc_row, jump_row, jump_register_row, branch_row, size_of, reached, load_at, load_row, store_at, store_row, immediate_row, register_row, fence_row, effect, instruction, fetched_at, script}
use Rattle.rv_hart.specs.Privileged.{trap, reads_csr, old_value, write_csr, csr_exchanged, csr_granted, csr_accessed, csr_row, csr_immediate_row, mret_row, is_withheld, sret_row, address_fence_row}
use Rattle.rv_hart.specs.Whole.{WholeHart, sight_of}

-- a register that there is
abbrev pub IsNamed : Place → Type 0
IsNamed (Reg n) = n < 32
IsNamed (Csr addr) = Unit {0}
IsNamed (Word addr) = Unit {0}

-- all questions ask for such places, whatever is told
abbrev AreNamed : {A : Type 0} → Script A → Type 0
AreNamed (Ask q next) = IsNamed (place_of q) × ((v : ℕ) → AreNamed (next v))
AreNamed Outside = Unit {0}
AreNamed (Done a) = Unit {0}

either_named : {A : Type 0} (b : Bool) (s t : Script A) → AreNamed s → AreNamed t → AreNamed (if b then s else t)
either_named true s t one other = one
either_named false s t one other = other

then_named : {A B : Type 0} (s : Script A) (next : A → Script B) → AreNamed s → ((a : A) → AreNamed (next a)) → AreNamed (s >>= next)
then_named (Ask q rest) next one other = (one.0, λ v. then_named (rest v) next (one.1 v) other)
then_named Outside next one other = tt
then_named (Done a) next one other = other a

-- ---- traps, CSRs and returns

trap_named : (f : Fixed) (word : ℕ) (cause : Cause) (value : ℕ) → AreNamed (trap f word cause value)
unfolding trap
trap_named f word cause value = (tt, λ v. tt)

old_named : (f : Fixed) (register : Register) → AreNamed (old_value f register)
old_named f Sstatus = tt
old_named f (Lazy register) = (tt, λ v. tt)
old_named f _ = tt

write_named : (f : Fixed) (word : ℕ) (rd : Option (ℕ × ℕ)) (register : Register) (value : ℕ) → AreNamed (write_csr f word rd register value)
write_named f word rd register value = either_named (is_legal register value) _ _ tt tt

exchanged_named : (f : Fixed) (word : ℕ) (i : Instr) (writes : Bool) (register : Register) (operand old : ℕ) → AreNamed (csr_exchanged f word i writes register operand old)
exchanged_named f word i true register operand old = write_named f word _ register _
exchanged_named f word i false register operand old = tt

granted_named : (f : Fixed) (word : ℕ) (i : Instr) (writes : Bool) (register : Register) (operand : ℕ) → AreNamed (csr_granted f word i writes register operand)
unfolding csr_granted
granted_named f word i writes register operand =
    either_named (reads_csr i) _ _
    (then_named (old_value f register) (λ old. csr_exchanged f word i writes register operand old) (old_named f register) (λ old. exchanged_named f word i writes register operand old))
    (write_named f word None register operand)

accessed_named : (f : Fixed) (word : ℕ) (i : Instr) (writes : Bool) (access : CsrAccess) (operand : Script ℕ) → AreNamed operand → AreNamed (csr_accessed f word i writes access operand)
accessed_named f word i writes NotModelled operand named = tt
accessed_named f word i writes Denied operand named = trap_named f word _ _
accessed_named f word i writes (Granted register) operand named = then_named operand (csr_granted f word i writes register) named (λ a. granted_named f word i writes register a)

csr_named : (f : Fixed) (word : ℕ) (i : Instr) → IsInRange i → AreNamed (csr_row f word i)
unfolding csr_row
csr_named f word i r = accessed_named f word i _ _ _ (r.rs1, λ v. tt)

csr_immediate_named : (f : Fixed) (word : ℕ) (i : Instr) → AreNamed (csr_immediate_row f word i)
unfolding csr_immediate_row
csr_immediate_named f word i = accessed_named f word i _ _ _ tt

mret_named : (f : Fixed) (word : ℕ) → AreNamed (mret_row f word)
unfolding mret_row
mret_named f word = either_named (is_machine f.privilege) _ _ (tt, λ v. tt) (trap_named f word _ _)

sret_named : (f : Fixed) (word : ℕ) → AreNamed (sret_row f word)
unfolding sret_row
sret_named f word = either_named (is_withheld Tsr f) _ _ (trap_named f word _ _) (tt, λ v. tt)

address_fence_named : (f : Fixed) (word : ℕ) → AreNamed (address_fence_row f word)
unfolding address_fence_row
address_fence_named f word = either_named (is_withheld Tvm f) _ _ (trap_named f word _ _) tt

-- ---- the other instructions

jumped_named : (f : Fixed) (word : ℕ) (rd : Option (ℕ × ℕ)) (target : ℕ) → AreNamed (jumped f word rd target)
jumped_named f word rd target = either_named (eqb (target % 4) 0) _ _ tt (trap_named f word _ _)

pointer_named : (ram : ℕ → Bool) (v : View) (kind : Kind) (va entry : ℕ) → AreNamed (from_pointer ram v kind va entry)
unfolding from_pointer
pointer_named ram v kind va entry = either_named (is_in_ram ram (second_address va entry)) _ _ (tt, λ second. tt) tt

root_named : (ram : ℕ → Bool) (v : View) (kind : Kind) (va entry : ℕ) → AreNamed (from_root ram v kind va entry)
unfolding from_root
root_named ram v kind va entry =
    either_named (is_invalid entry) _ _ tt
    (either_named (is_pointer entry) _ _ (either_named (is_reserved entry) _ _ tt (pointer_named ram v kind va entry))
    (either_named (is_unaligned entry || is_closed v kind entry) _ _ tt tt))

translated_named : (ram : ℕ → Bool) (v : View) (kind : Kind) (va : ℕ) → AreNamed (translated ram v kind va)
unfolding translated
translated_named ram v kind va =
    either_named (is_translated v) _ _ (either_named (is_in_ram ram (root_address v va)) _ _ (tt, λ root. root_named ram v kind va _) tt) tt

arriving_named : (f : Fixed) (word va : ℕ) (next : ℕ → Script Change) → ((pa : ℕ) → AreNamed (next pa)) → (r : Reached) → AreNamed (arriving f word va next r)
arriving_named f word va next named (At pa) = named pa
arriving_named f word va next named (Fails cause) = trap_named f word cause va

at_address_named : (f : Fixed) (word : ℕ) (v : View) (kind : Kind) (va : ℕ) (next : ℕ → Script Change) → ((pa : ℕ) → AreNamed (next pa)) → AreNamed (at_address f word v kind va next)
unfolding at_address
at_address_named f word v kind va next named = then_named (translated f.ram v kind va) (arriving f word va next) (translated_named f.ram v kind va) (λ r. arriving_named f word va next named r)

reached_named : (f : Fixed) (word : ℕ) (kind : Kind) (addr size : ℕ) (misaligned : Cause) (access : ℕ → Script Change) → ((pa : ℕ) → AreNamed (access pa)) → AreNamed (reached f word kind addr size misaligned access)
reached_named f word kind addr size misaligned access named =
    either_named (eqb (addr % size) 0) _ _ (at_address_named f word (data_view f) kind addr access named) (trap_named f word misaligned addr)

upper_named : (f : Fixed) (word : ℕ) (i : Instr) → AreNamed (upper_row f word i)
unfolding upper_row
upper_named f word i = tt

upper_pc_named : (f : Fixed) (word : ℕ) (i : Instr) → AreNamed (upper_pc_row f word i)
unfolding upper_pc_row
upper_pc_named f word i = tt

jump_named : (f : Fixed) (word : ℕ) (i : Instr) → AreNamed (jump_row f word i)
unfolding jump_row
jump_named f word i = jumped_named f word _ _

jump_register_named : (f : Fixed) (word : ℕ) (i : Instr) → IsInRange i → AreNamed (jump_register_row f word i)
unfolding jump_register_row
jump_register_named f word i r = (r.rs1, λ a. jumped_named f word _ _)

branch_named : (f : Fixed) (word : ℕ) (i : Instr) → IsInRange i → AreNamed (branch_row f word i)
unfolding branch_row
branch_named f word i r = (r.rs1, λ a. (r.rs2, λ b. either_named (is_taken i.op a b) _ _ (jumped_named f word None _) tt))

load_at_named : (f : Fixed) (word : ℕ) (i : Instr) (pa : ℕ) → AreNamed (load_at f word i pa)
unfolding load_at
load_at_named f word i pa = (tt, λ v. tt)

load_named : (f : Fixed) (word : ℕ) (i : Instr) → IsInRange i → AreNamed (load_row f word i)
unfolding load_row
load_named f word i r = (r.rs1, λ a. reached_named f word _ _ (size_of i.op) _ (load_at f word i) (load_at_named f word i))

store_at_named : (f : Fixed) (word : ℕ) (i : Instr) (value pa : ℕ) → AreNamed (store_at f word i value pa)
unfolding store_at
store_at_named f word i value pa = (tt, λ v. tt)

store_named : (f : Fixed) (word : ℕ) (i : Instr) → IsInRange i → AreNamed (store_row f word i)
unfolding store_row
store_named f word i r = (r.rs1, λ a. (r.rs2, λ b. reached_named f word _ _ (size_of i.op) _ (store_at f word i b) (store_at_named f word i b)))

immediate_named : (f : Fixed) (word : ℕ) (i : Instr) → IsInRange i → AreNamed (immediate_row f word i)
unfolding immediate_row
immediate_named f word i r = (r.rs1, λ a. tt)

register_named : (f : Fixed) (word : ℕ) (i : Instr) → IsInRange i → AreNamed (register_row f word i)
unfolding register_row
register_named f word i r = (r.rs1, λ a. (r.rs2, λ b. tt))

fence_named : (f : Fixed) (word : ℕ) (i : Instr) → AreNamed (fence_row f word i)
unfolding fence_row
fence_named f word i = tt

effect_named : (row : Row) (f : Fixed) (word : ℕ) (i : Instr) → IsInRange i → AreNamed (effect row f word i)
effect_named (U opcode) f word i r = either_named (eqb opcode 0x37) _ _ (upper_named f word i) (either_named (eqb opcode 0x17) _ _ (upper_pc_named f word i) tt)
effect_named (J opcode) f word i r = either_named (eqb opcode 0x6f) _ _ (jump_named f word i) tt
effect_named (B opcode funct3) f word i r = either_named (eqb opcode 0x63) _ _ (branch_named f word i r) tt
effect_named (S opcode funct3) f word i r = either_named (eqb opcode 0x23) _ _ (store_named f word i r) tt
effect_named (I opcode funct3) f word i r =
    either_named (eqb opcode 0x13) _ _ (immediate_named f word i r)
    (either_named (eqb opcode 0x03) _ _ (load_named f word i r) (either_named (eqb opcode 0x67) _ _ (jump_register_named f word i r) tt))
effect_named (Shift opcode funct3 funct7) f word i r = either_named (eqb opcode 0x13) _ _ (immediate_named f word i r) tt
effect_named (R opcode funct3 funct7) f word i r = either_named (eqb opcode 0x33) _ _ (register_named f word i r) tt
effect_named (FenceSets opcode funct3) f word i r = either_named (eqb opcode 0x0f) _ _ (fence_named f word i) tt
effect_named (CsrRow opcode funct3) f word i r = either_named (eqb opcode 0x73) _ _ (csr_named f word i r) tt
effect_named (CsrImmediate opcode funct3) f word i r = either_named (eqb opcode 0x73) _ _ (csr_immediate_named f word i) tt
effect_named (AddressFence opcode funct3 funct7) f word i r = either_named (eqb opcode 0x73) _ _ (address_fence_named f word) tt
effect_named (Whole bits) f word i r =
    either_named (eqb bits 0x73) _ _ (trap_named f word _ _)
    (either_named (eqb bits 0x100073) _ _ (trap_named f word _ _)
    (either_named (eqb bits 0x30200073) _ _ (mret_named f word) (either_named (eqb bits 0x10200073) _ _ (sret_named f word) tt)))
effect_named DefinedIllegal f word i r = trap_named f word _ _

instruction_named : (f : Fixed) (word : ℕ) (o : Option Instr) → decoded word ≡ o → AreNamed (instruction f word o)
unfolding instruction
instruction_named f word None e = tt
instruction_named f word (Some i) e = effect_named (row_of i.op) f word i (fitting_in_range i (encoded_read word i e).fits)

fetched_named : (f : Fixed) (pa : ℕ) → AreNamed (fetched_at f pa)
unfolding fetched_at
fetched_named f pa = (tt, λ v. instruction_named f _ (decoded _) refl)

script_named : (f : Fixed) → AreNamed (script f)
unfolding script
script_named f = at_address_named f 0 (fetch_view f) _ f.pc (fetched_at f) (fetched_named f)

-- ---- what is asked

asked_named : {A : Type 0} (s : Script A) (see : Sight) → AreNamed s → (place : Place) → HasItem (map (λ (e : Entry). place_of e.question) (asked_of s see)) place → IsNamed place
asked_named (Ask q next) see named place at = go (asked_named (next (told q (see q))) see (named.1 (told q (see q))) place) at
  where
    go : (HasItem (map (λ (e : Entry). place_of e.question) (asked_of (next (told q (see q))) see)) place → IsNamed place)
        → HasItem (map (λ (e : Entry). place_of e.question) (record { question = q; value = see q } ∷ asked_of (next (told q (see q))) see)) place → IsNamed place
    go ih (inl same) = subst IsNamed same named.0
    go ih (inr there) = ih there
asked_named Outside see named place at = absurd at
asked_named (Done a) see named place at = absurd at

-- the places that a step needs are no registers beyond x31
pub needs_named : (h : WholeHart) (m : ℕ → ℕ) (place : Place) → HasItem (map (λ (e : Entry). place_of e.question) (asked_of (script h.fixed) (sight_of h.file m))) place → IsNamed place
needs_named h m = asked_named (script h.fixed) (sight_of h.file m) (script_named h.fixed)
