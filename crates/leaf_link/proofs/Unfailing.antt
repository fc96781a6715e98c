-- A step whose fetch succeeded doesn't end as one whose fetch failed.
use Rattle.std.proofs.Common.{◌≡◌, ℕ, if◌then◌else◌, ◌+◌, ◌*◌, ◌/◌, ◌%◌, ◌^◌, ◌||◌, Bool, true, false, eqb, Option, None, refl}
use Rattle.rv_isa.specs.declared.instruction.Instr.{Instr}
use Rattle.rv_isa.specs.declared.table.Row.{Row}
use Rattle.rv_isa.specs.declared.table.Row.TheVariants.{R, I, Shift, S, B, U, J, Csr as CsrRow, CsrImmediate, FenceSets, AddressFence, Fixed as Whole, DefinedIllegal}
use Rattle.rv_isa.specs.Encoding.{word_of}
use Rattle.rv_isa.specs.Table.{row_of}
use Rattle.rv_isa.specs.Arithmetic.{is_taken}
use Rattle.rv_csr.specs.declared.access.CsrAccess.{CsrAccess}
use Rattle.rv_csr.specs.declared.access.CsrAccess.TheVariants.{Granted, Denied, Outside as NotModelled}
use Rattle.rv_csr.specs.declared.cause.Cause.{Cause}
use Rattle.rv_csr.specs.declared.cause.Cause.TheVariants.{Breakpoint, FetchMisaligned, Illegal, LoadMisaligned, StoreMisaligned}
use Rattle.rv_csr.specs.declared.privilege.Priv.{Priv}
use Rattle.rv_csr.specs.declared.privilege.Priv.TheVariants.{U as User, S as Supervisor, M as Machine}
use Rattle.rv_csr.specs.declared.status.Flag.TheVariants.{Tsr, Tvm}
use Rattle.rv_csr.specs.declared.table.LazyRegister.TheVariants.{Mepc, Sepc}
use Rattle.rv_csr.specs.declared.table.Register.{Register}
use Rattle.rv_csr.specs.Causes.{number_of}
use Rattle.rv_csr.specs.Privilege.{is_machine}
use Rattle.rv_csr.specs.Table.{is_legal}
use Rattle.rv_script.specs.Logs.{by_answers}
use Rattle.rv_script.specs.Script.{Label.FromCsr, Question.OfCsr, Question.OfMemory, Script, Script.Ask, Script.Outside, Script.Done, ◌>>=◌}
use Rattle.rv_script.proofs.Results.{Ends, ended, ends_then}
use Rattle.sv_walk.specs.declared.entry.Kind.{Kind}
use Rattle.sv_walk.specs.declared.entry.Kind.TheVariants.{Load as ForLoad, Store as ForStore}
use Rattle.sv_walk.specs.declared.entry.View.{View}
use Rattle.sv_walk.specs.Entry.{access_cause, is_closed, is_invalid, is_pointer, is_reserved, is_unaligned, page_cause, page_number}
use Rattle.sv_walk.specs.Translation.{Reached, At, Fails, arrived, from_pointer, from_root, is_in_ram, is_translated, root_address, root_label, second_address, second_end, second_label, translated}
use Rattle.rv_hart.specs.declared.record.Change.{Change}
use Rattle.rv_hart.specs.declared.record.Control.TheVariants.{Mret, Sret, Stay}
use Rattle.rv_hart.specs.Changes.{outcome_of}
use Rattle.rv_hart.specs.Fixed.{Fixed}
use Rattle.rv_hart.specs.Machine.{arriving, at_address, data_view, fence_row, jump_row, jumped, load_at, load_from, reached, size_of, store_at, store_to, upper_pc_row, upper_row}
use Rattle.rv_hart.specs.Privileged.{address_fence_row, call_cause, csr_accessed, csr_exchanged, csr_granted, csr_immediate_row, is_withheld, lazy_address, mret_row, old_value, reads_csr, refused, retired, sret_row, trap, went, write_csr}
use Rattle.rv_hart.specs.Rests.{after_access, csr_access, rest}
use Rattle.tpl_admit.specs.Admitting.{is_fetch_cause, is_unfetched}
use Rattle.leaf_link.specs.Admitted.{StepsAreFetched}
use Rattle.leaf_link.specs.Problems.{key_of}
use Rattle.leaf_link.specs.Values.{Values, given_by, instr_in}
use Rattle.leaf_link.proofs.Front.{rest_of, told_a, told_b}
use Rattle.leaf_link.proofs.Placing.{in_parts_of}

-- ---- a translation leads to an address, or fails with one of the two causes of its kind

if_is : {A : Type 0} (P : A → Type 0) (b : Bool) (r s : A) → P r → P s → P (if b then r else s)
if_is P true r s h k = h
if_is P false r s h k = k

if_ends : {A : Type 0} (P : A → Type 0) (b : Bool) (s t : Script A) → Ends P s → Ends P t → Ends P (if b then s else t)
if_ends P true s t h k = h
if_ends P false s t h k = k

module _ (P : Reached → Type 0) (ram : ℕ → Bool) (v : View) (kind : Kind) (va : ℕ) (at : (pa : ℕ) → P (At pa)) (page : P (Fails (page_cause kind))) (access : P (Fails (access_cause kind))) where
  arrived_is : (addr : ℕ) → P (arrived ram kind addr)
  arrived_is addr = if_is P (is_in_ram ram addr) (At addr) (Fails (access_cause kind)) (at addr) access

  second_is : (entry : ℕ) → P (second_end ram v kind va entry)
  unfolding second_end
  second_is entry =
      if_is P (is_invalid entry || (is_pointer entry || is_closed v kind entry)) (Fails (page_cause kind)) (arrived ram kind (page_number entry * 2 ^ 12 + va % 2 ^ 12)) page (arrived_is (page_number entry * 2 ^ 12 + va % 2 ^ 12))

  pointer_ends : (entry : ℕ) → Ends P (from_pointer ram v kind va entry)
  unfolding from_pointer
  pointer_ends entry =
      if_ends P (is_in_ram ram (second_address va entry)) (Ask (OfMemory (second_label kind) (second_address va entry) 4) (λ second. Done (second_end ram v kind va second))) (Done (Fails (access_cause kind)))
      (λ second. second_is second) access

  root_ends : (entry : ℕ) → Ends P (from_root ram v kind va entry)
  unfolding from_root
  root_ends entry =
      let end : Reached = arrived ram kind (entry / 2 ^ 20 * 2 ^ 22 + va % 2 ^ 22) in
      let fault : Script Reached = Done (Fails (page_cause kind)) in
      let inner : Script Reached = if is_reserved entry then Outside else from_pointer ram v kind va entry in
      let leaf : Script Reached = if is_unaligned entry || is_closed v kind entry then fault else Done end in
      if_ends P (is_invalid entry) fault (if is_pointer entry then inner else leaf) page
      (if_ends P (is_pointer entry) inner leaf (if_ends P (is_reserved entry) Outside (from_pointer ram v kind va entry) tt (pointer_ends entry))
      (if_ends P (is_unaligned entry || is_closed v kind entry) fault (Done end) page (arrived_is (entry / 2 ^ 20 * 2 ^ 22 + va % 2 ^ 22))))

  pub translated_ends : Ends P (translated ram v kind va)
  unfolding translated
  translated_ends =
      let fault : Script Reached = Done (Fails (access_cause kind)) in
      let walk : Script Reached = if is_in_ram ram (root_address v va) then Ask (OfMemory (root_label kind) (root_address v va) 4) (λ root. from_root ram v kind va root) else fault in
      if_ends P (is_translated v) walk (Done (arrived ram kind va))
      (if_ends P (is_in_ram ram (root_address v va)) (Ask (OfMemory (root_label kind) (root_address v va) 4) (λ root. from_root ram v kind va root)) fault (λ root. root_ends root) access)
      (arrived_is va)

-- ---- how the rest of an instruction ends

abbrev IsFetchedEnd : Fixed → Change → Type 0
IsFetchedEnd f c = is_unfetched (outcome_of f c.control) ≡ false

-- the cause is none of those of a fetch
abbrev IsNoFetchCause : Cause → Type 0
IsNoFetchCause cause = is_fetch_cause (number_of cause) ≡ false

abbrev IsDataEnd : Reached → Type 0
IsDataEnd (At pa) = Unit {0}
IsDataEnd (Fails cause) = IsNoFetchCause cause

then_ends : {A B : Type 0} (P : B → Type 0) (Q : A → Type 0) (s : Script A) (f : A → Script B) → Ends Q s → ((a : A) → Q a → Ends P (f a)) → Ends P (s >>= f)
then_ends P Q (Ask q next) f h k = λ v. then_ends P Q (next v) f (h v) k
then_ends P Q Outside f h k = tt
then_ends P Q (Done a) f h k = k a h

module _ (f : Fixed) (word : ℕ) where
  abbrev Kept : Script Change → Type 0
  Kept s = Ends (IsFetchedEnd f) s

  if_kept : (b : Bool) (s t : Script Change) → Kept s → Kept t → Kept (if b then s else t)
  if_kept b s t = if_ends (IsFetchedEnd f) b s t

  trap_kept : (cause : Cause) (value : ℕ) → IsNoFetchCause cause → Kept (trap f word cause value)
  unfolding trap
  trap_kept cause value h v = h

  arriving_kept : (va : ℕ) (next : ℕ → Script Change) (r : Reached) → ((pa : ℕ) → Kept (next pa)) → IsDataEnd r → Kept (arriving f word va next r)
  arriving_kept va next (At pa) k h = k pa
  arriving_kept va next (Fails cause) k h = trap_kept cause va h

  reached_kept : (kind : Kind) (addr size : ℕ) (cause : Cause) (next : ℕ → Script Change) → IsNoFetchCause (page_cause kind) → IsNoFetchCause (access_cause kind) → IsNoFetchCause cause → ((pa : ℕ) → Kept (next pa)) → Kept (reached f word kind addr size cause next)
  unfolding at_address
  reached_kept kind addr size cause next page access misaligned k =
      if_kept (eqb (addr % size) 0) (at_address f word (data_view f) kind addr next) (trap f word cause addr)
      (then_ends (IsFetchedEnd f) IsDataEnd (translated f.ram (data_view f) kind addr) (arriving f word addr next) (translated_ends IsDataEnd f.ram (data_view f) kind addr (λ pa. tt) page access) (λ r h. arriving_kept addr next r k h))
      (trap_kept cause addr misaligned)

  load_kept : (i : Instr) (addr : ℕ) → Kept (load_from f word i addr)
  unfolding load_at
  load_kept i addr = reached_kept ForLoad addr (size_of i.op) LoadMisaligned (load_at f word i) refl refl refl (λ pa v. refl)

  store_kept : (i : Instr) (addr value : ℕ) → Kept (store_to f word i addr value)
  unfolding store_at
  store_kept i addr value = reached_kept ForStore addr (size_of i.op) StoreMisaligned (store_at f word i value) refl refl refl (λ pa v. refl)

  jumped_kept : (rd : Option (ℕ × ℕ)) (target : ℕ) → Kept (jumped f word rd target)
  jumped_kept rd target = if_kept (eqb (target % 4) 0) (Done (went word rd Stay target)) (trap f word FetchMisaligned target) refl (trap_kept FetchMisaligned target refl)

  write_kept : (rd : Option (ℕ × ℕ)) (register : Register) (value : ℕ) → Kept (write_csr f word rd register value)
  write_kept rd register value = if_kept (is_legal register value) _ Outside refl tt

  exchanged_kept : (i : Instr) (writes : Bool) (register : Register) (operand old : ℕ) → Kept (csr_exchanged f word i writes register operand old)
  exchanged_kept i true register operand old = write_kept _ register _
  exchanged_kept i false register operand old = refl

  granted_kept : (i : Instr) (writes : Bool) (register : Register) (operand : ℕ) → Kept (csr_granted f word i writes register operand)
  unfolding csr_granted
  granted_kept i writes register operand =
      if_kept (reads_csr i) _ _
      (ends_then (IsFetchedEnd f) (old_value f register) (csr_exchanged f word i writes register operand) (λ old. exchanged_kept i writes register operand old))
      (write_kept None register operand)

  access_kept : (i : Instr) (access : CsrAccess) (a : ℕ) → Kept (after_access f word i access a)
  access_kept i (Granted register) a = granted_kept i _ register a
  access_kept i Denied a = trap_kept Illegal word refl
  access_kept i NotModelled a = tt

  immediate_kept : (i : Instr) (access : CsrAccess) (writes : Bool) → Kept (csr_accessed f word i writes access (Done i.imm))
  immediate_kept i (Granted register) writes = granted_kept i writes register i.imm
  immediate_kept i Denied writes = trap_kept Illegal word refl
  immediate_kept i NotModelled writes = tt

  mret_kept : Kept (mret_row f word)
  unfolding mret_row
  mret_kept =
      let h : Kept (Ask (OfCsr FromCsr (lazy_address Mepc)) (λ target. Done (went word None Mret target))) = λ v. refl in
      if_kept (is_machine f.privilege) (Ask (OfCsr FromCsr (lazy_address Mepc)) (λ target. Done (went word None Mret target))) (refused f word) h (trap_kept Illegal word refl)

  sret_kept : Kept (sret_row f word)
  unfolding sret_row
  sret_kept =
      let h : Kept (Ask (OfCsr FromCsr (lazy_address Sepc)) (λ target. Done (went word None Sret target))) = λ v. refl in
      if_kept (is_withheld Tsr f) (refused f word) (Ask (OfCsr FromCsr (lazy_address Sepc)) (λ target. Done (went word None Sret target))) (trap_kept Illegal word refl) h

  call_kept : (p : Priv) → IsNoFetchCause (call_cause p)
  call_kept User = refl
  call_kept Supervisor = refl
  call_kept Machine = refl

  rest_kept : (row : Row) (i : Instr) (a b : ℕ) → Kept (rest row f word i a b)
  unfolding upper_row upper_pc_row jump_row fence_row csr_immediate_row address_fence_row
  rest_kept (R opcode funct3 funct7) i a b = refl
  rest_kept (Shift opcode funct3 funct7) i a b = refl
  rest_kept (I opcode funct3) i a b = if_kept (eqb opcode 0x13) _ _ refl (if_kept (eqb opcode 0x03) _ _ (load_kept i _) (jumped_kept _ _))
  rest_kept (S opcode funct3) i a b = store_kept i _ b
  rest_kept (B opcode funct3) i a b = if_kept (is_taken i.op a b) _ _ (jumped_kept None _) refl
  rest_kept (CsrRow opcode funct3) i a b = access_kept i (csr_access f i) a
  rest_kept (U opcode) i a b = if_kept (eqb opcode 0x37) _ _ refl (if_kept (eqb opcode 0x17) _ Outside refl tt)
  rest_kept (J opcode) i a b = if_kept (eqb opcode 0x6f) _ Outside (jumped_kept _ _) tt
  rest_kept (FenceSets opcode funct3) i a b = if_kept (eqb opcode 0x0f) _ Outside refl tt
  rest_kept (CsrImmediate opcode funct3) i a b = if_kept (eqb opcode 0x73) _ Outside (immediate_kept i _ _) tt
  rest_kept (AddressFence opcode funct3 funct7) i a b = if_kept (eqb opcode 0x73) _ Outside (if_kept (is_withheld Tvm f) (refused f word) (Done (retired f.pc word None)) (trap_kept Illegal word refl) refl) tt
  rest_kept (Whole bits) i a b =
      if_kept (eqb bits 0x0000_0073) _ _ (trap_kept (call_cause f.privilege) 0 (call_kept f.privilege))
      (if_kept (eqb bits 0x0010_0073) _ _ (trap_kept Breakpoint f.pc refl)
      (if_kept (eqb bits 0x3020_0073) _ _ mret_kept
      (if_kept (eqb bits 0x1020_0073) _ Outside sret_kept tt)))
  rest_kept DefinedIllegal i a b = trap_kept Illegal word refl

pub steps_are_fetched : StepsAreFetched
steps_are_fetched t walk pa leaf new f w =
    let x : Values = key_of t leaf new w in
    let p = in_parts_of t walk pa leaf new f w in
    ended (IsFetchedEnd t.fixed) (rest_of t w.instr.op x (told_a t w.instr.op x) (told_b t w.instr.op x)) (by_answers t.known (given_by x)) p.rest w.change
    (rest_kept t.fixed (word_of (instr_in x)) (row_of w.instr.op) (instr_in x) (told_a t w.instr.op x) (told_b t w.instr.op x)) p.plays
