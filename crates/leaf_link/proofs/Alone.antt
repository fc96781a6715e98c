-- A step that reads a CSR takes no trap.
use Rattle.std.proofs.Common.{◌≡◌, ℕ, if◌then◌else◌, ◌+◌, ◌*◌, ◌/◌, ◌%◌, ◌^◌, ◌||◌, Bool, true, false, eqb, Option, ◌⊎◌, inl, inr, refl, ap, ◌∙◌}
use Rattle.std.proofs.lemmas.Bool.{cases_Bool}
use Rattle.rv_isa.specs.declared.instruction.Instr.{Instr}
use Rattle.rv_isa.specs.declared.table.Row.{Row}
use Rattle.rv_isa.specs.declared.table.Row.TheVariants.{R, I, Shift, S, B, U, J, Csr as CsrRow, CsrImmediate, FenceSets, AddressFence, Fixed as Whole, DefinedIllegal}
use Rattle.rv_isa.specs.Table.{row_of}
use Rattle.rv_csr.specs.declared.access.CsrAccess.{CsrAccess}
use Rattle.rv_csr.specs.declared.access.CsrAccess.TheVariants.{Granted, Denied, Outside as NotModelled}
use Rattle.rv_csr.specs.declared.cause.Cause.{Cause}
use Rattle.rv_csr.specs.declared.table.Register.{Register}
use Rattle.rv_csr.specs.declared.table.Register.TheVariants.{Sstatus, Satp, Mstatus, Medeleg, Mhartid, Lazy}
use Rattle.rv_csr.specs.Access.{access_of}
use Rattle.rv_csr.specs.Privilege.{is_machine}
use Rattle.rv_csr.specs.declared.status.Flag.TheVariants.{Tsr}
use Rattle.rv_script.specs.Labels.{Asks}
use Rattle.rv_script.specs.Script.{Label, Label.FromCsr, Label.DataRoot, Label.DataSecond, Label.DataWord, Label.FromVector, Question, Question.OfRegister, Question.OfCsr, Question.OfMemory, Question.ToMemory, Script, Script.Done, ◌>>=◌}
use Rattle.sv_walk.specs.declared.entry.Kind.{Kind}
use Rattle.sv_walk.specs.declared.entry.Kind.TheVariants.{Load as ForLoad, Store as ForStore}
use Rattle.sv_walk.specs.declared.entry.View.{View}
use Rattle.sv_walk.specs.Entry.{access_cause, is_closed, is_invalid, is_pointer, is_reserved, is_unaligned, page_cause}
use Rattle.sv_walk.specs.Translation.{Reached, At, Fails, arrived, from_pointer, from_root, is_in_ram, is_translated, root_address, root_label, second_address, second_end, second_label, translated}
use Rattle.rv_hart.specs.declared.record.Change.{Change}
use Rattle.rv_hart.specs.Fixed.{Fixed}
use Rattle.rv_hart.specs.Machine.{arriving, at_address, data_view, fence_row, jump_row, jumped, load_at, load_from, reached, store_at, store_to, upper_pc_row, upper_row}
use Rattle.rv_hart.specs.Privileged.{address_fence_row, csr_accessed, csr_exchanged, csr_granted, csr_immediate_row, is_withheld, mret_row, old_value, reads_csr, sret_row, trap, write_csr, writes_csr}
use Rattle.rv_hart.specs.Rests.{after_access, csr_access, rest}
use Rattle.leaf_link.specs.Values.{field_of_operand, fixed_value, has_csr_operand, unasked_csr}

-- the old value of a CSR is asked for
abbrev pub is_old : Label → Type 0
is_old FromCsr = Unit {0}
is_old _ = ⊥

abbrev pub IsForOld : Question → Type 0
IsForOld (OfCsr label addr) = is_old label
IsForOld (OfRegister label n) = ⊥
IsForOld (OfMemory label addr size) = ⊥
IsForOld (ToMemory addr size value) = ⊥

-- a page table entry, the data word or the vector is asked for
abbrev pub is_trap : Label → Type 0
is_trap FromVector = Unit {0}
is_trap _ = ⊥

abbrev pub is_data : Label → Type 0
is_data DataRoot = Unit {0}
is_data DataSecond = Unit {0}
is_data DataWord = Unit {0}
is_data _ = ⊥

abbrev pub IsForLater : Question → Type 0
IsForLater (OfCsr label addr) = is_trap label
IsForLater (OfRegister label n) = ⊥
IsForLater (OfMemory label addr size) = is_data label
IsForLater (ToMemory addr size value) = Unit {0}

-- just the old value is asked for, or just what comes later, where no CSR is read without asking
pub record IsAlone (f : Fixed) (i : Instr) (s : Script Change) : Type 0 where
  pub is : Asks IsForOld s ⊎ (Asks IsForLater s × (unasked_csr f i ≡ 0))

if_alone : (f : Fixed) (i : Instr) (b : Bool) (s t : Script Change) → IsAlone f i s → IsAlone f i t → IsAlone f i (if b then s else t)
if_alone f i true s t h k = h
if_alone f i false s t h k = k

if_later : (b : Bool) (s t : Script Change) → Asks IsForLater s → Asks IsForLater t → Asks IsForLater (if b then s else t)
if_later true s t h k = h
if_later false s t h k = k

if_old : (b : Bool) (s t : Script Change) → Asks IsForOld s → Asks IsForOld t → Asks IsForOld (if b then s else t)
if_old true s t h k = h
if_old false s t h k = k

trap_later : (f : Fixed) (word : ℕ) (cause : Cause) (value : ℕ) → Asks IsForLater (trap f word cause value)
unfolding trap
trap_later f word cause value = (tt, λ v. tt)

arriving_later : (f : Fixed) (word va : ℕ) (next : ℕ → Script Change) (r : Reached) → ((pa : ℕ) → Asks IsForLater (next pa)) → Asks IsForLater (arriving f word va next r)
arriving_later f word va next (At pa) k = k pa
arriving_later f word va next (Fails cause) k = trap_later f word cause va

-- a kind that asks for the entries of data asks for nothing else
pub record AsksLater (kind : Kind) : Type 0 where
  pub root : is_data (root_label kind)
  pub second : is_data (second_label kind)

module _ (kind : Kind) (f : Fixed) (word : ℕ) (v : View) (va : ℕ) (next : ℕ → Script Change) (of : AsksLater kind) (k : (pa : ℕ) → Asks IsForLater (next pa)) where
  abbrev behind : Script Reached → Script Change
  behind s = s >>= arriving f word va next

  ends : (r : Reached) → Asks IsForLater (behind (Done r))
  ends r = arriving_later f word va next r k

  if_behind : (b : Bool) (s u : Script Reached) → Asks IsForLater (behind s) → Asks IsForLater (behind u) → Asks IsForLater (behind (if b then s else u))
  if_behind true s u h k = h
  if_behind false s u h k = k

  pointer_later : (entry : ℕ) → Asks IsForLater (behind (from_pointer f.ram v kind va entry))
  unfolding from_pointer
  pointer_later entry = if_behind (is_in_ram f.ram (second_address va entry)) _ _ (of.second, λ w. ends (second_end f.ram v kind va w)) (ends (Fails (access_cause kind)))

  root_later : (entry : ℕ) → Asks IsForLater (behind (from_root f.ram v kind va entry))
  unfolding from_root
  root_later entry =
      if_behind (is_invalid entry) _ _ (ends (Fails (page_cause kind)))
      (if_behind (is_pointer entry) _ _ (if_behind (is_reserved entry) _ _ tt (pointer_later entry))
      (if_behind (is_unaligned entry || is_closed v kind entry) _ _ (ends (Fails (page_cause kind))) (ends (arrived f.ram kind (entry / 2 ^ 20 * 2 ^ 22 + va % 2 ^ 22)))))

  address_later : Asks IsForLater (at_address f word v kind va next)
  unfolding at_address translated
  address_later =
      if_behind (is_translated v) _ _
      (if_behind (is_in_ram f.ram (root_address v va)) _ _ (of.root, λ w. root_later w) (ends (Fails (access_cause kind))))
      (ends (arrived f.ram kind va))

reached_later : (kind : Kind) (f : Fixed) (word addr size : ℕ) (cause : Cause) (next : ℕ → Script Change) → AsksLater kind → ((pa : ℕ) → Asks IsForLater (next pa)) → Asks IsForLater (reached f word kind addr size cause next)
reached_later kind f word addr size cause next of k = if_later (eqb (addr % size) 0) _ _ (address_later kind f word (data_view f) addr next of k) (trap_later f word cause addr)

load_later : (f : Fixed) (word : ℕ) (i : Instr) (addr : ℕ) → Asks IsForLater (load_from f word i addr)
unfolding load_at
load_later f word i addr = reached_later ForLoad f word addr _ _ (load_at f word i) (record { root = tt; second = tt }) (λ pa. (tt, λ v. tt))

store_later : (f : Fixed) (word : ℕ) (i : Instr) (addr value : ℕ) → Asks IsForLater (store_to f word i addr value)
unfolding store_at
store_later f word i addr value = reached_later ForStore f word addr _ _ (store_at f word i value) (record { root = tt; second = tt }) (λ pa. (tt, λ v. tt))

jumped_later : (f : Fixed) (word : ℕ) (rd : Option (ℕ × ℕ)) (target : ℕ) → Asks IsForLater (jumped f word rd target)
jumped_later f word rd target = search (if_later, trap_later, tt)

write_old : (f : Fixed) (word : ℕ) (rd : Option (ℕ × ℕ)) (register : Register) (value : ℕ) → Asks IsForOld (write_csr f word rd register value)
write_old f word rd register value = search (if_old, tt)

exchanged_old : (f : Fixed) (word : ℕ) (i : Instr) (writes : Bool) (register : Register) (operand old : ℕ) → Asks IsForOld (csr_exchanged f word i writes register operand old)
exchanged_old f word i true register operand old = write_old f word _ register _
exchanged_old f word i false register operand old = tt

value_old : (register : Register) (f : Fixed) (next : ℕ → Script Change) → ((v : ℕ) → Asks IsForOld (next v)) → Asks IsForOld (old_value f register >>= next)
value_old (Lazy r) f next h = (tt, λ v. h v)
value_old Sstatus f next h = h _
value_old Satp f next h = h _
value_old Mstatus f next h = h _
value_old Medeleg f next h = h _
value_old Mhartid f next h = h _

granted_old : (f : Fixed) (word : ℕ) (i : Instr) (writes : Bool) (register : Register) (operand : ℕ) → Asks IsForOld (csr_granted f word i writes register operand)
unfolding csr_granted
granted_old f word i writes register operand = let h = value_old register f (csr_exchanged f word i writes register operand) (λ old. exchanged_old f word i writes register operand old) in search (if_old, h, write_old)

-- ---- what is read without asking

abbrev unasked_by : Fixed → Instr → Row → ℕ
unasked_by f i row = if has_csr_operand row then (if reads_csr i then fixed_value f (access_of f.mstatus i.csr f.privilege (writes_csr i.op (field_of_operand row i))) else 0) else 0

none_unasked : (f : Fixed) (i : Instr) (row : Row) → row_of i.op ≡ row → unasked_by f i row ≡ 0 → unasked_csr f i ≡ 0
none_unasked f i row is h = ap (λ (r : Row). unasked_by f i r) is ∙ h

zero_if : (b : Bool) (n : ℕ) → n ≡ 0 → (if b then n else 0) ≡ 0
zero_if true n h = h
zero_if false n h = refl

denied_none : (f : Fixed) (i : Instr) (access : CsrAccess) → access ≡ Denied → (if reads_csr i then fixed_value f access else 0) ≡ 0
denied_none f i access is = zero_if (reads_csr i) (fixed_value f access) (ap (λ (a : CsrAccess). fixed_value f a) is)

-- ---- rests

access_alone : (f : Fixed) (word : ℕ) (i : Instr) (access : CsrAccess) (a : ℕ) → (access ≡ Denied → unasked_csr f i ≡ 0) → IsAlone f i (after_access f word i access a)
access_alone f word i (Granted register) a none = record { is = inl (granted_old f word i _ register a) }
access_alone f word i Denied a none = record { is = inr (trap_later f word _ word, none refl) }
access_alone f word i NotModelled a none = record { is = inl tt }

immediate_alone : (f : Fixed) (word : ℕ) (i : Instr) (access : CsrAccess) (writes : Bool) → (access ≡ Denied → unasked_csr f i ≡ 0) → IsAlone f i (csr_accessed f word i writes access (Done i.imm))
immediate_alone f word i (Granted register) writes none = record { is = inl (granted_old f word i writes register i.imm) }
immediate_alone f word i Denied writes none = record { is = inr (trap_later f word _ word, none refl) }
immediate_alone f word i NotModelled writes none = record { is = inl tt }

mret_alone : (f : Fixed) (word : ℕ) (i : Instr) → unasked_csr f i ≡ 0 → IsAlone f i (mret_row f word)
unfolding mret_row
mret_alone f word i none = if_alone f i (is_machine f.privilege) _ _ (record { is = inl (tt, λ v. tt) }) (record { is = inr (trap_later f word _ word, none) })

sret_alone : (f : Fixed) (word : ℕ) (i : Instr) → unasked_csr f i ≡ 0 → IsAlone f i (sret_row f word)
unfolding sret_row
sret_alone f word i none = if_alone f i (is_withheld Tsr f) _ _ (record { is = inr (trap_later f word _ word, none) }) (record { is = inl (tt, λ v. tt) })

pub rest_alone : (row : Row) (f : Fixed) (word : ℕ) (i : Instr) (a b : ℕ) → row_of i.op ≡ row → IsAlone f i (rest row f word i a b)
unfolding upper_row upper_pc_row jump_row fence_row csr_immediate_row address_fence_row
rest_alone (R opcode funct3 funct7) f word i a b is = record { is = inl tt }
rest_alone (Shift opcode funct3 funct7) f word i a b is = record { is = inl tt }
rest_alone (I opcode funct3) f word i a b is =
    let none = none_unasked f i (I opcode funct3) is refl in
    elim (cases_Bool (eqb opcode 0x03)) [
      | inl load ↦ let loads = load_later f word i ((a + i.imm) % 2 ^ 32) in record { is = inr (search (if_later, loads, jumped_later, tt), none) }
      | inr other ↦ rw other (record { is = inr (search (if_later, jumped_later, tt), none) })
    ]
rest_alone (S opcode funct3) f word i a b is = record { is = inr (store_later f word i _ b, none_unasked f i (S opcode funct3) is refl) }
rest_alone (B opcode funct3) f word i a b is = record { is = inr (search (if_later, jumped_later, tt), none_unasked f i (B opcode funct3) is refl) }
rest_alone (CsrRow opcode funct3) f word i a b is = access_alone f word i (csr_access f i) a (λ denied. none_unasked f i (CsrRow opcode funct3) is (denied_none f i (csr_access f i) denied))
rest_alone (U opcode) f word i a b is = record { is = inr (search (if_later, tt), none_unasked f i (U opcode) is refl) }
rest_alone (J opcode) f word i a b is = record { is = inr (search (if_later, jumped_later, tt), none_unasked f i (J opcode) is refl) }
rest_alone (FenceSets opcode funct3) f word i a b is = record { is = inr (search (if_later, tt), none_unasked f i (FenceSets opcode funct3) is refl) }
rest_alone (CsrImmediate opcode funct3) f word i a b is =
    if_alone f i (eqb opcode 0x73) _ _ (immediate_alone f word i (access_of f.mstatus i.csr f.privilege (writes_csr i.op i.imm)) (writes_csr i.op i.imm)
    (λ denied. none_unasked f i (CsrImmediate opcode funct3) is (denied_none f i (access_of f.mstatus i.csr f.privilege (writes_csr i.op i.imm)) denied))) (record { is = inl tt })
rest_alone (AddressFence opcode funct3 funct7) f word i a b is = record { is = inr (search (if_later, trap_later, tt), none_unasked f i (AddressFence opcode funct3 funct7) is refl) }
rest_alone (Whole bits) f word i a b is =
    let none = none_unasked f i (Whole bits) is refl in
    if_alone f i (eqb bits 0x0000_0073) _ _ (record { is = inr (trap_later f word _ 0, none) })
    (if_alone f i (eqb bits 0x0010_0073) _ _ (record { is = inr (trap_later f word _ f.pc, none) })
    (if_alone f i (eqb bits 0x3020_0073) _ _ (mret_alone f word i none)
    (if_alone f i (eqb bits 0x1020_0073) _ _ (sret_alone f word i none) (record { is = inl tt }))))
rest_alone DefinedIllegal f word i a b is = record { is = inr (trap_later f word _ word, none_unasked f i DefinedIllegal is refl) }
