-- Operations that read rs1 and are never refused: all that do but the CSR instructions.
use Rattle.std.proofs.Common.{◌≡◌, ℕ, if◌then◌else◌, ◌%◌, ◌&&◌, ◌==◌, not, Bool, true, false, eqb, Option, None, refl}
use Rattle.rv_isa.specs.declared.instruction.Instr.{Instr}
use Rattle.rv_isa.specs.declared.operation.Op.{Op}
use Rattle.rv_isa.specs.declared.operation.Op.TheVariants.{Jalr}
use Rattle.rv_isa.specs.declared.table.Row.{Row}
use Rattle.rv_isa.specs.declared.table.Row.TheVariants.{R, I, Shift, S, B, U, J, Csr as CsrRow, CsrImmediate, FenceSets, AddressFence, Fixed as Whole, DefinedIllegal}
use Rattle.rv_isa.specs.Arithmetic.{has_condition, is_taken}
use Rattle.rv_isa.specs.Fields.{reads_rs1, reads_rs2, has_address}
use Rattle.rv_isa.specs.Table.{row_of}
use Rattle.rv_csr.specs.declared.cause.Cause.{Cause}
use Rattle.rv_csr.specs.declared.cause.Cause.TheVariants.{FetchMisaligned, LoadMisaligned, StoreMisaligned}
use Rattle.rv_csr.specs.Causes.{number_of}
use Rattle.rv_script.specs.Script.{Script, Script.Ask, Script.Outside, Script.Done, ◌>>=◌}
use Rattle.rv_script.proofs.Results.{Ends}
use Rattle.sv_walk.specs.declared.entry.Kind.{Kind}
use Rattle.sv_walk.specs.declared.entry.Kind.TheVariants.{Load as ForLoad, Store as ForStore}
use Rattle.sv_walk.specs.declared.entry.View.{View}
use Rattle.sv_walk.specs.Translation.{Reached, At, Fails, translated}
use Rattle.sv_walk.proofs.Plain.{IsNoRefusal, Plain, translated_plain}
use Rattle.rv_hart.specs.declared.record.Change.{Change}
use Rattle.rv_hart.specs.declared.record.Control.TheVariants.{Stay}
use Rattle.rv_hart.specs.Changes.{outcome_of}
use Rattle.rv_hart.specs.Fixed.{Fixed}
use Rattle.rv_hart.specs.Machine.{arriving, at_address, data_view, jumped, load_at, load_from, reached, size_of, store_at, store_to}
use Rattle.rv_hart.specs.Privileged.{trap, went}
use Rattle.rv_hart.specs.Rests.{asks_rs1, rest}
use Rattle.tpl_admit.specs.Variables.{is_jalr, outcome_in}

abbrev pub is_never_refused : Row → Bool
is_never_refused (R opcode funct3 funct7) = true
is_never_refused (I opcode funct3) = true
is_never_refused (Shift opcode funct3 funct7) = true
is_never_refused (S opcode funct3) = true
is_never_refused (B opcode funct3) = true
is_never_refused (U opcode) = false
is_never_refused (J opcode) = false
is_never_refused (CsrRow opcode funct3) = false
is_never_refused (CsrImmediate opcode funct3) = false
is_never_refused (FenceSets opcode funct3) = false
is_never_refused (AddressFence opcode funct3 funct7) = false
is_never_refused (Whole word) = false
is_never_refused DefinedIllegal = false

-- ---- which they are

pub address_never : (row : Row) → has_address row ≡ true → is_never_refused row ≡ true
address_never (I opcode funct3) h = refl
address_never (S opcode funct3) h = refl
address_never (R opcode funct3 funct7) h = refl
address_never (Shift opcode funct3 funct7) h = refl
address_never (B opcode funct3) h = refl
address_never _ h = absurd (cc)

pub condition_never : (row : Row) → has_condition row ≡ true → (is_never_refused row ≡ true) × (reads_rs2 row ≡ true)
condition_never (B opcode funct3) h = (refl, refl)
condition_never _ h = absurd (cc)

pub jalr_never : (op : Op) → is_jalr op ≡ true → is_never_refused (row_of op) ≡ true
jalr_never Jalr h = refl
jalr_never _ h = absurd (cc)

pub never_reads : (row : Row) → is_never_refused row ≡ true → reads_rs1 row ≡ true
never_reads (R opcode funct3 funct7) h = refl
never_reads (I opcode funct3) h = refl
never_reads (Shift opcode funct3 funct7) h = refl
never_reads (S opcode funct3) h = refl
never_reads (B opcode funct3) h = refl
never_reads _ h = absurd (cc)

pub never_asks : (row : Row) (f : Fixed) (i : Instr) → is_never_refused row ≡ true → asks_rs1 row f i ≡ true
never_asks (R opcode funct3 funct7) f i h = refl
never_asks (I opcode funct3) f i h = refl
never_asks (Shift opcode funct3 funct7) f i h = refl
never_asks (S opcode funct3) f i h = refl
never_asks (B opcode funct3) f i h = refl
never_asks _ f i h = absurd (cc)

pub not_two : (reads two : Bool) → (reads && not two) ≡ true → two ≡ false
not_two true true h = absurd (cc)
not_two true false h = refl
not_two false two h = absurd (cc)

-- ---- how they end

abbrev pub Unrefused : Fixed → Change → Type 0
Unrefused f c = (outcome_in (outcome_of f c.control) == 2) ≡ false

then_ends : {A B : Type 0} (P : B → Type 0) (Q : A → Type 0) (s : Script A) (f : A → Script B) → Ends Q s → ((a : A) → Q a → Ends P (f a)) → Ends P (s >>= f)
then_ends P Q (Ask q next) f h k = λ v. then_ends P Q (next v) f (h v) k
then_ends P Q Outside f h k = tt
then_ends P Q (Done a) f h k = k a h

plain_ends : (s : Script Reached) → Plain s → Ends IsNoRefusal s
plain_ends (Ask q next) h = λ v. plain_ends (next v) (h.1 v)
plain_ends Outside h = tt
plain_ends (Done r) h = h

if_ends : (P : Change → Type 0) (b : Bool) (s t : Script Change) → Ends P s → Ends P t → Ends P (if b then s else t)
if_ends P true s t h k = h
if_ends P false s t h k = k

trap_ends : (f : Fixed) (word : ℕ) (cause : Cause) (value : ℕ) → (number_of cause == 2) ≡ false → Ends (Unrefused f) (trap f word cause value)
unfolding trap
trap_ends f word cause value h v = h

arriving_ends : (f : Fixed) (word va : ℕ) (next : ℕ → Script Change) (r : Reached) → ((pa : ℕ) → Ends (Unrefused f) (next pa)) → IsNoRefusal r → Ends (Unrefused f) (arriving f word va next r)
arriving_ends f word va next (At pa) k h = k pa
arriving_ends f word va next (Fails cause) k h = trap_ends f word cause va h

data_ends : (kind : Kind) (f : Fixed) (word : ℕ) (v : View) (va : ℕ) (next : ℕ → Script Change) → ((pa : ℕ) → Ends (Unrefused f) (next pa)) → Ends (Unrefused f) (at_address f word v kind va next)
unfolding at_address
data_ends kind f word v va next k =
    then_ends (Unrefused f) IsNoRefusal (translated f.ram v kind va) (arriving f word va next) (plain_ends (translated f.ram v kind va) (translated_plain f.ram v kind va)) (λ r h. arriving_ends f word va next r k h)

reached_ends : (kind : Kind) (f : Fixed) (word addr size : ℕ) (cause : Cause) (next : ℕ → Script Change) → (number_of cause == 2) ≡ false → ((pa : ℕ) → Ends (Unrefused f) (next pa)) → Ends (Unrefused f) (reached f word kind addr size cause next)
reached_ends kind f word addr size cause next c k =
    if_ends (Unrefused f) (eqb (addr % size) 0) (at_address f word (data_view f) kind addr next) (trap f word cause addr) (data_ends kind f word (data_view f) addr next k) (trap_ends f word cause addr c)

load_ends : (f : Fixed) (word : ℕ) (i : Instr) (addr : ℕ) → Ends (Unrefused f) (load_from f word i addr)
unfolding load_at
load_ends f word i addr = reached_ends ForLoad f word addr (size_of i.op) LoadMisaligned (load_at f word i) refl (λ pa v. refl)

store_ends : (f : Fixed) (word : ℕ) (i : Instr) (addr value : ℕ) → Ends (Unrefused f) (store_to f word i addr value)
unfolding store_at
store_ends f word i addr value = reached_ends ForStore f word addr (size_of i.op) StoreMisaligned (store_at f word i value) refl (λ pa v. refl)

jumped_ends : (f : Fixed) (word : ℕ) (rd : Option (ℕ × ℕ)) (target : ℕ) → Ends (Unrefused f) (jumped f word rd target)
jumped_ends f word rd target = if_ends (Unrefused f) (eqb (target % 4) 0) (Done (went word rd Stay target)) (trap f word FetchMisaligned target) refl (trap_ends f word FetchMisaligned target refl)

pub never_ends : (row : Row) (f : Fixed) (word : ℕ) (i : Instr) (a b : ℕ) → is_never_refused row ≡ true → Ends (Unrefused f) (rest row f word i a b)
never_ends (R opcode funct3 funct7) f word i a b h = refl
never_ends (Shift opcode funct3 funct7) f word i a b h = refl
never_ends (I opcode funct3) f word i a b h = if_ends (Unrefused f) (eqb opcode 0x13) _ _ refl (if_ends (Unrefused f) (eqb opcode 0x03) _ _ (load_ends f word i _) (jumped_ends f word _ _))
never_ends (S opcode funct3) f word i a b h = store_ends f word i _ b
never_ends (B opcode funct3) f word i a b h = if_ends (Unrefused f) (is_taken i.op a b) _ _ (jumped_ends f word None _) refl
never_ends (U opcode) f word i a b h = absurd (cc)
never_ends (J opcode) f word i a b h = absurd (cc)
never_ends (CsrRow opcode funct3) f word i a b h = absurd (cc)
never_ends (CsrImmediate opcode funct3) f word i a b h = absurd (cc)
never_ends (FenceSets opcode funct3) f word i a b h = absurd (cc)
never_ends (AddressFence opcode funct3 funct7) f word i a b h = absurd (cc)
never_ends (Whole bits) f word i a b h = absurd (cc)
never_ends DefinedIllegal f word i a b h = absurd (cc)
