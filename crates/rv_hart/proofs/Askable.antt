-- What a step asks for is a register, a lazy CSR, or bytes of RAM at a multiple of their number.
use Rattle.std.proofs.Common.{◌≡◌, ℕ, if◌then◌else◌, ◌*◌, ◌/◌, ◌%◌, ◌^◌, ◌<◌, ◌&&◌, ◌||◌, Bool, true, false, eqb, ltb, List, [], ◌∷◌, map, Option, Some, None, refl, sym, ◌∙◌, subst, inl, inr, arith}
use Rattle.std.specs.Prelude.{IfSome}
use Rattle.std.proofs.lemmas.Bool.{eqb-true, ltb-true}
use Rattle.std.proofs.lemmas.Bool.Decides.{nat_tests}
use Rattle.rv_isa.specs.declared.instruction.Instr.{Instr}
use Rattle.rv_isa.specs.declared.operation.Op.{Op}
use Rattle.rv_isa.specs.declared.operation.Op.TheVariants.{Lb, Lh, Lbu, Lhu, Sb, Sh}
use Rattle.rv_isa.specs.declared.table.Row.{Row}
use Rattle.rv_isa.specs.declared.table.Row.TheVariants.{R, I, Shift, S, B, U, J, Csr as CsrRow, CsrImmediate, FenceSets, AddressFence, Fixed as Whole, DefinedIllegal}
use Rattle.rv_isa.specs.Encoding.{IsInRange}
use Rattle.rv_isa.specs.Fields.{reads_rs2}
use Rattle.rv_isa.specs.Reading.{decoded}
use Rattle.rv_isa.specs.Table.{row_of}
use Rattle.rv_isa.proofs.Codec.{IfSome-in_range}
use Rattle.rv_csr.specs.declared.access.CsrAccess.{CsrAccess}
use Rattle.rv_csr.specs.declared.access.CsrAccess.TheVariants.{Granted, Denied, Outside as NotModelled}
use Rattle.rv_csr.specs.declared.cause.Cause.{Cause}
use Rattle.rv_csr.specs.Causes.{number_of}
use Rattle.rv_csr.specs.declared.status.Flag.TheVariants.{Tsr}
use Rattle.rv_csr.specs.Privilege.{is_machine}
use Rattle.rv_csr.specs.Traps.{takes_trap, vector_register}
use Rattle.rv_csr.specs.declared.table.LazyRegister.{LazyRegister}
use Rattle.rv_csr.specs.declared.table.LazyRegister.TheVariants.{Stvec, Sscratch, Sepc, Scause, Stval, Mtvec, Mscratch, Mepc, Mcause, Mtval}
use Rattle.rv_csr.specs.declared.table.Register.{Register}
use Rattle.rv_csr.specs.declared.table.Register.TheVariants.{Sstatus, Satp, Mstatus, Medeleg, Mhartid, Lazy}
use Rattle.rv_script.specs.declared.access.Access.{Access}
use Rattle.rv_script.specs.declared.access.Role.TheVariants.{Store}
use Rattle.rv_script.specs.Bytes.{part_of, word_address}
use Rattle.rv_script.specs.Labels.{Asks}
use Rattle.rv_script.specs.Lists.{HasItem}
use Rattle.rv_script.specs.Folds.{Entry, asked_of}
use Rattle.rv_script.specs.Script.{Label.FromRs1, Label.FromRs2, Question, Question.OfRegister, Question.OfCsr, Question.OfMemory, Question.ToMemory, place_of, access_of, role_of, Script, Script.Ask, Script.Done, ◌>>=◌}
use Rattle.rv_script.proofs.Results.{asks_of, asks_then_ends}
use Rattle.sv_walk.specs.declared.entry.Kind.{Kind}
use Rattle.sv_walk.specs.declared.entry.Kind.TheVariants.{Fetch as ForFetch, Load as ForLoad, Store as ForStore}
use Rattle.sv_walk.specs.declared.entry.View.{View}
use Rattle.sv_walk.specs.Translation.{Reached, At, Fails, is_in_ram, translated}
use Rattle.sv_walk.proofs.Askings.{Arrives, IsEntryAsked, translated_arrives, translated_asks}
use Rattle.rv_hart.specs.declared.record.Change.{Change}
use Rattle.rv_hart.specs.Asked.{AsksPlaces, IsAskable, IsNeedable, IsOfRam, NeedsPlaces, is_lazy, is_size}
use Rattle.rv_hart.specs.Effects.{IsAccess}
use Rattle.rv_hart.specs.Fixed.{Fixed}
use Rattle.rv_hart.specs.Machine.{arriving, at_address, data_view, effect, fetch_view, fetched_at, instruction, jumped, load_at, load_from, reached, script, size_of, store_at, store_to, upper_row, upper_pc_row, jump_row, fence_row}
use Rattle.rv_hart.specs.Privileged.{address_fence_row, csr_accessed, csr_exchanged, csr_granted, csr_immediate_row, is_withheld, lazy_address, mret_row, old_value, sret_row, trap, write_csr}
use Rattle.rv_hart.specs.Rests.{after_access, ask_if, asks_rs1, csr_access, in_parts, rest}
use Rattle.rv_hart.specs.Whole.{sight_of}
use Rattle.rv_hart.proofs.Forms.{effect_in_parts}

-- ---- numbers of bytes

data IsSize : ℕ → Type 0 where
  One : IsSize 1
  Two : IsSize 2
  Four : IsSize 4

size_is : (op : Op) → IsSize (size_of op)
size_is Lb = One
size_is Lbu = One
size_is Sb = One
size_is Lh = Two
size_is Lhu = Two
size_is Sh = Two
size_is _ = Four

of_ram : (ram : ℕ → Bool) (addr pa n : ℕ) → IsSize n → addr % n ≡ 0 → pa % 4 ≡ addr % 4 → is_in_ram ram pa ≡ true → IsOfRam ram pa n
of_ram ram addr pa n One aligned offset there = record { size = refl; aligned = omega arith; there = there }
of_ram ram addr pa n Two aligned offset there = record { size = refl; aligned = omega (arith, aligned, offset); there = there }
of_ram ram addr pa n Four aligned offset there = record { size = refl; aligned = omega (arith, aligned, offset); there = there }

stored_fits : (n value : ℕ) → IsSize n → value % 256 ^ n < 256 ^ n
stored_fits n value One = omega arith
stored_fits n value Two = omega arith
stored_fits n value Four = omega arith

-- ---- traps

lazy_is : (l : LazyRegister) → is_lazy (lazy_address l) ≡ true
lazy_is Stvec = refl
lazy_is Sscratch = refl
lazy_is Sepc = refl
lazy_is Scause = refl
lazy_is Stval = refl
lazy_is Mtvec = refl
lazy_is Mscratch = refl
lazy_is Mepc = refl
lazy_is Mcause = refl
lazy_is Mtval = refl

-- of one instruction, over RAM
abbrev Askable : Fixed → Script Change → Type 0
Askable f s = Asks (IsAskable f.ram) s

if_asks : (f : Fixed) (b : Bool) (s t : Script Change) → Askable f s → Askable f t → Askable f (if b then s else t)
if_asks f true s t h k = h
if_asks f false s t h k = k

trap_asks : (f : Fixed) (word : ℕ) (cause : Cause) (value : ℕ) → Askable f (trap f word cause value)
unfolding trap
trap_asks f word cause value = (lazy_is (vector_register (takes_trap f.medeleg f.privilege (number_of cause))), λ v. tt)

jumped_asks : (f : Fixed) (word : ℕ) (rd : Option (ℕ × ℕ)) (target : ℕ) → Askable f (jumped f word rd target)
jumped_asks f word rd target = if_asks f (eqb (target % 4) 0) _ _ tt (trap_asks f word _ target)

-- ---- memory

entry_askable : (ram : ℕ → Bool) (q : Question) → IsEntryAsked ram q → IsAskable ram q
entry_askable ram (OfMemory label addr size) h = subst (λ (n : ℕ). IsOfRam ram addr n) (sym h.0) (record { size = refl; aligned = h.1; there = h.2 })
entry_askable ram (OfRegister label n) h = absurd h
entry_askable ram (OfCsr label addr) h = absurd h
entry_askable ram (ToMemory addr size value) h = absurd h

walk_asks : (ram : ℕ → Bool) (s : Script Reached) → Asks (IsEntryAsked ram) s → Asks (IsAskable ram) s
walk_asks ram (Ask q next) h = (entry_askable ram q h.0, λ v. walk_asks ram (next v) (h.1 v))
walk_asks ram Script.Outside h = tt
walk_asks ram (Done r) h = tt

arriving_asks : (f : Fixed) (word va : ℕ) (next : ℕ → Script Change) (r : Reached) → Arrives f.ram va r → ((pa : ℕ) → pa % 4 ≡ va % 4 → is_in_ram f.ram pa ≡ true → Askable f (next pa)) → Askable f (arriving f word va next r)
arriving_asks f word va next (At pa) h k = k pa h.0 h.1
arriving_asks f word va next (Fails cause) h k = trap_asks f word cause va

address_asks : (f : Fixed) (word : ℕ) (v : View) (kind : Kind) (va : ℕ) (next : ℕ → Script Change) → ((pa : ℕ) → pa % 4 ≡ va % 4 → is_in_ram f.ram pa ≡ true → Askable f (next pa)) → Askable f (at_address f word v kind va next)
unfolding at_address
address_asks f word v kind va next k =
    asks_then_ends (IsAskable f.ram) (Arrives f.ram va) (translated f.ram v kind va) (arriving f word va next) (walk_asks f.ram _ (translated_asks f.ram v kind va)) (translated_arrives f.ram v kind va)
    (λ r h. arriving_asks f word va next r h k)

reached_asks : (f : Fixed) (word : ℕ) (kind : Kind) (addr n : ℕ) (cause : Cause) (next : ℕ → Script Change) → IsSize n → ((pa : ℕ) → IsOfRam f.ram pa n → Askable f (next pa)) → Askable f (reached f word kind addr n cause next)
reached_asks f word kind addr n cause next is k = go (eqb (addr % n) 0) refl where
  go : (c : Bool) → eqb (addr % n) 0 ≡ c → Askable f (if c then at_address f word (data_view f) kind addr next else trap f word cause addr)
  go true aligned = address_asks f word (data_view f) kind addr next (λ pa offset there. k pa (of_ram f.ram addr pa n is (eqb-true (addr % n) 0 aligned) offset there))
  go false aligned = trap_asks f word cause addr

load_asks : (f : Fixed) (word : ℕ) (i : Instr) (addr : ℕ) → Askable f (load_from f word i addr)
unfolding load_at
load_asks f word i addr = reached_asks f word ForLoad addr (size_of i.op) _ (load_at f word i) (size_is i.op) (λ pa there. (there, λ v. tt))

store_asks : (f : Fixed) (word : ℕ) (i : Instr) (addr value : ℕ) → Askable f (store_to f word i addr value)
unfolding store_at
store_asks f word i addr value = reached_asks f word ForStore addr (size_of i.op) _ (store_at f word i value) (size_is i.op) (λ pa there. ((there, stored_fits (size_of i.op) value (size_is i.op)), λ v. tt))

-- ---- CSRs

write_asks : (f : Fixed) (word : ℕ) (rd : Option (ℕ × ℕ)) (register : Register) (value : ℕ) → Askable f (write_csr f word rd register value)
write_asks f word rd register value = search (if_asks)

exchanged_asks : (f : Fixed) (word : ℕ) (i : Instr) (writes : Bool) (register : Register) (operand old : ℕ) → Askable f (csr_exchanged f word i writes register operand old)
exchanged_asks f word i true register operand old = write_asks f word _ register _
exchanged_asks f word i false register operand old = tt

old_asks : (register : Register) (f : Fixed) (next : ℕ → Script Change) → ((v : ℕ) → Askable f (next v)) → Askable f (old_value f register >>= next)
old_asks (Lazy r) f next h = (lazy_is r, λ v. h v)
old_asks Sstatus f next h = h _
old_asks Satp f next h = h _
old_asks Mstatus f next h = h _
old_asks Medeleg f next h = h _
old_asks Mhartid f next h = h _

granted_asks : (f : Fixed) (word : ℕ) (i : Instr) (writes : Bool) (register : Register) (operand : ℕ) → Askable f (csr_granted f word i writes register operand)
unfolding csr_granted
granted_asks f word i writes register operand =
    let h = old_asks register f (csr_exchanged f word i writes register operand) (λ old. exchanged_asks f word i writes register operand old) in
    search (if_asks, h, write_asks)

access_asks : (f : Fixed) (word : ℕ) (i : Instr) (access : CsrAccess) (a : ℕ) → Askable f (after_access f word i access a)
access_asks f word i (Granted register) a = granted_asks f word i _ register a
access_asks f word i Denied a = trap_asks f word _ word
access_asks f word i NotModelled a = tt

immediate_asks : (f : Fixed) (word : ℕ) (i : Instr) (access : CsrAccess) (writes : Bool) → Askable f (csr_accessed f word i writes access (Done i.imm))
immediate_asks f word i (Granted register) writes = granted_asks f word i writes register i.imm
immediate_asks f word i Denied writes = trap_asks f word _ word
immediate_asks f word i NotModelled writes = tt

mret_asks : (f : Fixed) (word : ℕ) → Askable f (mret_row f word)
unfolding mret_row
mret_asks f word = if_asks f (is_machine f.privilege) _ _ (lazy_is Mepc, λ v. tt) (trap_asks f word _ word)

sret_asks : (f : Fixed) (word : ℕ) → Askable f (sret_row f word)
unfolding sret_row
sret_asks f word = if_asks f (is_withheld Tsr f) _ _ (trap_asks f word _ word) (lazy_is Sepc, λ v. tt)

whole_asks : (bits : ℕ) (f : Fixed) (word : ℕ) (i : Instr) → Askable f (effect (Whole bits) f word i)
whole_asks bits f word i =
    if_asks f (eqb bits 0x0000_0073) _ _ (trap_asks f word _ 0)
    (if_asks f (eqb bits 0x0010_0073) _ _ (trap_asks f word _ f.pc)
    (if_asks f (eqb bits 0x3020_0073) _ _ (mret_asks f word)
    (if_asks f (eqb bits 0x1020_0073) _ _ (sret_asks f word) tt)))

-- ---- instructions

rest_asks : (row : Row) (f : Fixed) (word : ℕ) (i : Instr) (a b : ℕ) → Askable f (rest row f word i a b)
unfolding upper_row upper_pc_row jump_row fence_row csr_immediate_row address_fence_row
rest_asks (R opcode funct3 funct7) f word i a b = tt
rest_asks (Shift opcode funct3 funct7) f word i a b = tt
rest_asks (I opcode funct3) f word i a b = search (if_asks, load_asks, jumped_asks)
rest_asks (S opcode funct3) f word i a b = store_asks f word i _ b
rest_asks (B opcode funct3) f word i a b = search (if_asks, jumped_asks)
rest_asks (CsrRow opcode funct3) f word i a b = access_asks f word i (csr_access f i) a
rest_asks (U opcode) f word i a b = search (if_asks)
rest_asks (J opcode) f word i a b = search (if_asks, jumped_asks)
rest_asks (FenceSets opcode funct3) f word i a b = search (if_asks)
rest_asks (CsrImmediate opcode funct3) f word i a b = search (if_asks, immediate_asks)
rest_asks (AddressFence opcode funct3 funct7) f word i a b = search (if_asks, trap_asks)
rest_asks (Whole bits) f word i a b = whole_asks bits f word i
rest_asks DefinedIllegal f word i a b = trap_asks f word _ word

asked_if : (f : Fixed) (b : Bool) (q : Question) (next : ℕ → Script Change) → IsAskable f.ram q → ((v : ℕ) → Askable f (next v)) → Askable f (ask_if b q next)
asked_if f true q next h k = (h, k)
asked_if f false q next h k = k 0

parts_asks : (row : Row) (f : Fixed) (word : ℕ) (i : Instr) → i.rs1 < 32 → i.rs2 < 32 → Askable f (in_parts row f word i)
parts_asks row f word i first second =
    asked_if f (asks_rs1 row f i) (OfRegister FromRs1 i.rs1) _ first
    (λ a. asked_if f (reads_rs2 row) (OfRegister FromRs2 i.rs2) _ second
    (λ b. rest_asks row f word i a b))

instruction_asks : (f : Fixed) (word : ℕ) (o : Option Instr) → IfSome o IsInRange → Askable f (instruction f word o)
unfolding instruction
instruction_asks f word None h = tt
instruction_asks f word (Some i) h = subst (λ (s : Script Change). Askable f s) (sym (effect_in_parts i.op f word i)) (parts_asks (row_of i.op) f word i h.rs1 h.rs2)

fetched_asks : (f : Fixed) (pa : ℕ) → pa % 4 ≡ 0 → is_in_ram f.ram pa ≡ true → Askable f (fetched_at f pa)
unfolding fetched_at
fetched_asks f pa aligned there = (record { size = refl; aligned = aligned; there = there }, λ word. instruction_asks f word (decoded word) (IfSome-in_range word (decoded word) refl))

pub asks_places : AsksPlaces
unfolding script
asks_places f aligned = address_asks f 0 (fetch_view f) ForFetch f.pc (fetched_at f) (λ pa offset there. fetched_asks f pa (offset ∙ aligned) there)

-- ---- places

size_cases : (n : ℕ) → is_size n ≡ true → IsSize n
size_cases n h = one (eqb n 1) refl h where
  four : (c : Bool) → eqb n 4 ≡ c → c ≡ true → IsSize n
  four c is h = subst IsSize (sym (eqb-true n 4 (is ∙ h))) Four

  two : (c : Bool) → eqb n 2 ≡ c → c || eqb n 4 ≡ true → IsSize n
  two true is h = subst IsSize (sym (eqb-true n 2 is)) Two
  two false is h = four (eqb n 4) refl h

  one : (c : Bool) → eqb n 1 ≡ c → c || (eqb n 2 || eqb n 4) ≡ true → IsSize n
  one true is h = subst IsSize (sym (eqb-true n 1 is)) One
  one false is h = two (eqb n 2) refl h

word_there : (ram : ℕ → Bool) (addr : ℕ) → is_in_ram ram addr ≡ true → is_in_ram ram (word_address addr) ≡ true
word_there ram addr h = go (ltb addr (2 ^ 32)) refl h where
  go : (c : Bool) → ltb addr (2 ^ 32) ≡ c → c && ram (addr / 4) ≡ true → is_in_ram ram (word_address addr) ≡ true
  go true small h =
      let low : word_address addr < 2 ^ 32 = omega (arith, ltb-true addr (2 ^ 32) small) in
      let below : ltb (word_address addr) (2 ^ 32) ≡ true = grind (arith, nat_tests, low) in
      let same : word_address addr / 4 ≡ addr / 4 = omega arith in
      rw (below, same) h
  go false small h = absurd (cc h)

pub needable : (ram : ℕ → Bool) (q : Question) → IsAskable ram q → IsNeedable ram (place_of q)
needable ram (OfRegister label n) h = h
needable ram (OfCsr label addr) h = h
needable ram (OfMemory label addr size) h = (omega arith, word_there ram addr h.there)
needable ram (ToMemory addr size value) h = (omega arith, word_there ram addr h.0.there)

item_mapped : {A B : Type 0} (f : A → B) (xs : List A) (y : B) → HasItem (map f xs) y → (x : A) × HasItem xs x × (f x ≡ y)
item_mapped f [] y h = absurd h
item_mapped f (x ∷ xs) y (inl here) = (x, inl refl, here)
item_mapped f (x ∷ xs) y (inr there) = let rest = item_mapped f xs y there in (rest.0, inr rest.1, rest.2)

pub needs_places : NeedsPlaces
needs_places h words aligned place there =
    let e = item_mapped (λ (e : Entry). place_of e.question) (asked_of (script h.fixed) (sight_of h.file words)) place there in
    subst (IsNeedable h.fixed.ram) e.2 (needable h.fixed.ram e.0.question (asks_of (IsAskable h.fixed.ram) (script h.fixed) (sight_of h.file words) (asks_places h.fixed aligned) e.0 e.1))

-- ---- accesses

part_fits : (addr n word : ℕ) → IsSize n → part_of addr n word < 2 ^ (8 * n)
part_fits addr n word One = omega arith
part_fits addr n word Two = omega arith
part_fits addr n word Four = omega arith

powers : (n : ℕ) → IsSize n → 256 ^ n ≡ 2 ^ (8 * n)
powers n One = refl
powers n Two = refl
powers n Four = refl

word_below : (ram : ℕ → Bool) (addr : ℕ) → is_in_ram ram addr ≡ true → addr < 2 ^ 32
word_below ram addr h = go (ltb addr (2 ^ 32)) refl h where
  go : (c : Bool) → ltb addr (2 ^ 32) ≡ c → c && ram (addr / 4) ≡ true → addr < 2 ^ 32
  go true small h = ltb-true addr (2 ^ 32) small
  go false small h = absurd (cc h)

pub access_fits : (ram : ℕ → Bool) (q : Question) (v : ℕ) (x : Access) → IsAskable ram q → access_of q v ≡ Some x → IsAccess x
access_fits ram (OfRegister label n) v x h is = absurd (cc is)
access_fits ram (OfCsr label addr) v x h is = absurd (cc is)
access_fits ram (OfMemory label addr size) v x h is =
    let y : Access = record { role = role_of label; addr = addr; size = size; value = part_of addr size v } in
    let e : y ≡ x = cc is in
    subst IsAccess e (record { addr = word_below ram addr h.there; size = h.size; value = part_fits addr size v (size_cases size h.size) })
access_fits ram (ToMemory addr size value) v x h is =
    let y : Access = record { role = Store; addr = addr; size = size; value = value } in
    let e : y ≡ x = cc is in
    subst IsAccess e (record { addr = word_below ram addr h.0.there; size = h.0.size; value = subst (λ (m : ℕ). value < m) (powers size (size_cases size h.0.size)) h.1 })
