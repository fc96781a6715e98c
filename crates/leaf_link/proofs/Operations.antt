-- The laws of the operations that have no data access and no CSR.
use Rattle.std.proofs.Common.{◌≡◌, ℕ, if◌then◌else◌, ◌+◌, ◌%◌, ◌^◌, ◌||◌, Bool, true, false, eqb, List, Option, None, refl, sym, ap, ◌∙◌, subst, inl, inr}
use Rattle.std.proofs.lemmas.Bool.{cases_Bool}
use Rattle.rv_isa.specs.declared.instruction.Instr.{Instr}
use Rattle.rv_isa.specs.declared.operation.Op.{Op}
use Rattle.rv_isa.specs.declared.operation.Op.TheVariants.{Beq, Bne, Blt, Bge, Bltu, Bgeu, Jal, Jalr, Ecall, Ebreak, SfenceVma, Illegal as IllegalOp}
use Rattle.rv_isa.specs.declared.table.Row.{Row}
use Rattle.rv_isa.specs.declared.table.Row.TheVariants.{R, I, Shift, S, B, U, J, Csr as CsrRow, CsrImmediate, FenceSets, AddressFence, Fixed as Whole, DefinedIllegal}
use Rattle.rv_isa.specs.Arithmetic.{alu_result, is_branch, is_taken}
use Rattle.rv_isa.specs.Encoding.{word_of}
use Rattle.rv_isa.specs.Fields.{reads_rs1}
use Rattle.rv_isa.specs.Table.{row_of}
use Rattle.rv_csr.specs.declared.cause.Cause.TheVariants.{FetchMisaligned, Illegal, Breakpoint}
use Rattle.rv_csr.specs.declared.status.Flag.TheVariants.{Tvm}
use Rattle.rv_script.specs.Script.{Script, Script.Done}
use Rattle.rv_script.specs.Folds.{Entry}
use Rattle.rv_hart.specs.declared.record.Change.{Change}
use Rattle.rv_hart.specs.declared.record.Control.TheVariants.{Stay}
use Rattle.rv_hart.specs.Changes.{outcome_of}
use Rattle.rv_hart.specs.Fixed.{Fixed}
use Rattle.rv_hart.specs.Machine.{even, fence_row, jump_row, jumped, upper_pc_row, upper_row}
use Rattle.rv_hart.specs.Privileged.{address_fence_row, call_cause, following, is_withheld, rd_told, retired, trap, went}
use Rattle.tpl_ast.specs.declared.template.Atom.{Atom}
use Rattle.tpl_admit.specs.Variables.{outcome_in}
use Rattle.fd_prob.specs.declared.slot.Slot.TheVariants as slots
use Rattle.leaf_link.specs.Turns.{Turn}
use Rattle.leaf_link.specs.Values.{Values, instr_in, has_csr_operand}
use Rattle.leaf_link.specs.Ways.{IsFetched, IsOf, IsWays}
use Rattle.rv_hart.specs.Rests.{asks_rs1, rest}
use Rattle.leaf_link.specs.Kinds.{branch_goes, far_is_target, forks, is_plain_row, near_is_target, retires, traps}
use Rattle.leaf_link.specs.KindLaws.{WaysAreExact, PlainIsExact, BranchesAreExact, JumpIsExact, JumpRegisterIsExact, CallIsExact, BreakIsExact, IllegalIsExact, AddressFenceIsExact, fence_ways}
use Rattle.leaf_link.proofs.Front.{rest_of}
use Rattle.leaf_link.proofs.Resting.{AsksAll, Retires, forks_ways, retires_ways, traps_ways}
use Rattle.leaf_link.proofs.Back.{law}

pub exact : WaysAreExact
exact t walk pa leaf op ways p w = law t walk pa leaf op ways p.fetched p.words p.plain w

plain_asks : (row : Row) (f : Fixed) (i : Instr) → has_csr_operand row ≡ false → asks_rs1 row f i ≡ reads_rs1 row
plain_asks (CsrRow opcode funct3) f i h = absurd (cc)
plain_asks (R opcode funct3 funct7) f i h = refl
plain_asks _ f i h = refl

pub all_asked : (t : Turn) (op : Op) → has_csr_operand (row_of op) ≡ false → AsksAll t op
all_asked t op h x is = plain_asks (row_of op) t.fixed (instr_in x) h

-- PLAIN OPERATIONS
pub record Ended (f : Fixed) (word : ℕ) (s : Script Change) : Type 0 where
  pub change : Change
  pub ends : s ≡ Done change
  pub word_is : change.word ≡ word
  pub outcome : outcome_in (outcome_of f change.control) ≡ 255

ended_by : (f : Fixed) (word : ℕ) (rd : Option (ℕ × ℕ)) (target : ℕ) (s : Script Change) → s ≡ Done (went word rd Stay target) → Ended f word s
ended_by f word rd target s h = record { change = went word rd Stay target; ends = h; word_is = refl; outcome = refl }

pub if_yes : {A : Type 0} (b : Bool) (s t : A) → b ≡ true → (if b then s else t) ≡ s
if_yes true s t h = refl
if_yes false s t h = absurd (cc)

pub if_no : {A : Type 0} (b : Bool) (s t : A) → b ≡ false → (if b then s else t) ≡ t
if_no true s t h = absurd (cc)
if_no false s t h = refl

or_yes : (b c : Bool) → (b || c) ≡ true → b ≡ false → c ≡ true
or_yes true c h n = absurd (cc)
or_yes false c h n = h

plain_ends : (row : Row) → is_plain_row row ≡ true → (f : Fixed) (word : ℕ) (i : Instr) (a b : ℕ) → Ended f word (rest row f word i a b)
unfolding upper_row upper_pc_row fence_row
plain_ends (R opcode funct3 funct7) h f word i a b = ended_by f word (rd_told i.rd (alu_result i.op a b)) (following f.pc) _ refl
plain_ends (Shift opcode funct3 funct7) h f word i a b = ended_by f word (rd_told i.rd (alu_result i.op a i.imm)) (following f.pc) _ refl
plain_ends (I opcode funct3) h f word i a b = ended_by f word (rd_told i.rd (alu_result i.op a i.imm)) (following f.pc) _ (if_yes (eqb opcode 0x13) _ _ h)
plain_ends (U opcode) h f word i a b = elim (cases_Bool (eqb opcode 0x37)) [
  | inl y ↦ ended_by f word (rd_told i.rd i.imm) (following f.pc) _ (if_yes (eqb opcode 0x37) _ _ y)
  | inr n ↦ ended_by f word (rd_told i.rd ((f.pc + i.imm) % 2 ^ 32)) (following f.pc) _ (if_no (eqb opcode 0x37) _ _ n ∙ if_yes (eqb opcode 0x17) _ _ (or_yes _ _ h n))
]
plain_ends (FenceSets opcode funct3) h f word i a b = ended_by f word None (following f.pc) _ (if_yes (eqb opcode 0x0f) _ _ h)
plain_ends (S opcode funct3) h f word i a b = absurd (cc)
plain_ends (B opcode funct3) h f word i a b = absurd (cc)
plain_ends (J opcode) h f word i a b = absurd (cc)
plain_ends (CsrRow opcode funct3) h f word i a b = absurd (cc)
plain_ends (CsrImmediate opcode funct3) h f word i a b = absurd (cc)
plain_ends (AddressFence opcode funct3 funct7) h f word i a b = absurd (cc)
plain_ends (Whole bits) h f word i a b = absurd (cc)
plain_ends DefinedIllegal h f word i a b = absurd (cc)

plain_no_csr : (row : Row) → is_plain_row row ≡ true → has_csr_operand row ≡ false
plain_no_csr (CsrRow opcode funct3) h = absurd (cc)
plain_no_csr (CsrImmediate opcode funct3) h = absurd (cc)
plain_no_csr (R opcode funct3 funct7) h = refl
plain_no_csr _ h = refl

retires_by : (t : Turn) (op : Op) (x : Values) → Ended t.fixed (word_of (instr_in x)) (rest_of t op x (x slots.A) (x slots.B)) → Retires t op x
retires_by t op x e = record { change = e.change; ends = e.ends; word = e.word_is; outcome = e.outcome }

pub plain_ways : (t : Turn) (walk : List Entry) (pa : ℕ) (leaf : List Atom) → IsFetched t walk pa → (op : Op) → is_plain_row (row_of op) ≡ true → IsWays t walk pa leaf op retires
plain_ways t walk pa leaf f op h =
    let none = plain_no_csr (row_of op) h in
    retires_ways t walk pa leaf op f none (all_asked t op none)
    (λ x is. retires_by t op x (plain_ends (row_of op) h t.fixed (word_of (instr_in x)) (instr_in x) (x slots.A) (x slots.B)))

pub plain_is_exact : PlainIsExact
plain_is_exact t walk pa leaf p op h = exact t walk pa leaf op retires p (plain_ways t walk pa leaf p.fetched op h)

-- JUMPS
jump_ends : (f : Fixed) (word : ℕ) (rd : Option (ℕ × ℕ)) (target : ℕ) → eqb (target % 4) 0 ≡ true → Ended f word (jumped f word rd target)
jump_ends f word rd target h = ended_by f word rd target _ (if_yes (eqb (target % 4) 0) _ _ h)

jump_fails : (f : Fixed) (word : ℕ) (rd : Option (ℕ × ℕ)) (target : ℕ) → eqb (target % 4) 0 ≡ false → jumped f word rd target ≡ trap f word FetchMisaligned target
jump_fails f word rd target h = if_no (eqb (target % 4) 0) _ _ h

pub jump_ways : (t : Turn) (walk : List Entry) (pa : ℕ) (leaf : List Atom) → IsFetched t walk pa → IsWays t walk pa leaf Jal (forks t FetchMisaligned (near_is_target t.fixed.pc))
unfolding jump_row
jump_ways t walk pa leaf f = (forks_ways t walk pa leaf Jal FetchMisaligned (near_is_target t.fixed.pc) f refl (all_asked t Jal refl) refl
    (λ x is h. retires_by t Jal x (jump_ends t.fixed (word_of (instr_in x)) (rd_told (x slots.Rd) (following t.fixed.pc)) ((t.fixed.pc + x slots.Imm) % 2 ^ 32) h))
    (λ x is h. record { value = (t.fixed.pc + x slots.Imm) % 2 ^ 32; ends = jump_fails t.fixed (word_of (instr_in x)) (rd_told (x slots.Rd) (following t.fixed.pc)) ((t.fixed.pc + x slots.Imm) % 2 ^ 32) h }))

pub jump_is_exact : JumpIsExact
jump_is_exact t walk pa leaf p = exact t walk pa leaf Jal (forks t FetchMisaligned (near_is_target t.fixed.pc)) p (jump_ways t walk pa leaf p.fetched)

pub jump_register_ways : (t : Turn) (walk : List Entry) (pa : ℕ) (leaf : List Atom) → IsFetched t walk pa → IsWays t walk pa leaf Jalr (forks t FetchMisaligned far_is_target)
jump_register_ways t walk pa leaf f = (forks_ways t walk pa leaf Jalr FetchMisaligned far_is_target f refl (all_asked t Jalr refl) refl
    (λ x is h. retires_by t Jalr x (jump_ends t.fixed (word_of (instr_in x)) (rd_told (x slots.Rd) (following t.fixed.pc)) (even ((x slots.A + x slots.Imm) % 2 ^ 32)) h))
    (λ x is h. record { value = even ((x slots.A + x slots.Imm) % 2 ^ 32); ends = jump_fails t.fixed (word_of (instr_in x)) (rd_told (x slots.Rd) (following t.fixed.pc)) (even ((x slots.A + x slots.Imm) % 2 ^ 32)) h }))

pub jump_register_is_exact : JumpRegisterIsExact
jump_register_is_exact t walk pa leaf p = exact t walk pa leaf Jalr (forks t FetchMisaligned far_is_target) p (jump_register_ways t walk pa leaf p.fetched)

-- BRANCHES
branch_rest : (op : Op) → is_branch op ≡ true → (f : Fixed) (word : ℕ) (i : Instr) (a b : ℕ)
    → rest (row_of op) f word i a b ≡ (if is_taken i.op a b then jumped f word None ((f.pc + i.imm) % 2 ^ 32) else Done (retired f.pc word None))
branch_rest Beq h f word i a b = refl
branch_rest Bne h f word i a b = refl
branch_rest Blt h f word i a b = refl
branch_rest Bge h f word i a b = refl
branch_rest Bltu h f word i a b = refl
branch_rest Bgeu h f word i a b = refl
branch_rest _ h f word i a b = absurd (cc)

branch_no_csr : (op : Op) → is_branch op ≡ true → has_csr_operand (row_of op) ≡ false
branch_no_csr Beq h = refl
branch_no_csr Bne h = refl
branch_no_csr Blt h = refl
branch_no_csr Bge h = refl
branch_no_csr Bltu h = refl
branch_no_csr Bgeu h = refl
branch_no_csr _ h = absurd (cc)

branch_ends : (f : Fixed) (word target : ℕ) (taken : Bool) → (if taken then eqb (target % 4) 0 else true) ≡ true → Ended f word (if taken then jumped f word None target else Done (retired f.pc word None))
branch_ends f word target true h = jump_ends f word None target h
branch_ends f word target false h = ended_by f word None (following f.pc) _ refl

branch_fails : (f : Fixed) (word target : ℕ) (taken : Bool) → (if taken then eqb (target % 4) 0 else true) ≡ false → (if taken then jumped f word None target else Done (retired f.pc word None)) ≡ trap f word FetchMisaligned target
branch_fails f word target true h = jump_fails f word None target h
branch_fails f word target false h = absurd (cc)

branch_taken : (t : Turn) (op : Op) (x : Values) → is_branch op ≡ true → IsOf op x
    → rest_of t op x (x slots.A) (x slots.B) ≡ (if is_taken op (x slots.A) (x slots.B) then jumped t.fixed (word_of (instr_in x)) None ((t.fixed.pc + x slots.Imm) % 2 ^ 32) else Done (retired t.fixed.pc (word_of (instr_in x)) None))
branch_taken t op x h is = branch_rest op h t.fixed (word_of (instr_in x)) (instr_in x) (x slots.A) (x slots.B)
    ∙ ap (λ (o : Op). if is_taken o (x slots.A) (x slots.B) then jumped t.fixed (word_of (instr_in x)) None ((t.fixed.pc + x slots.Imm) % 2 ^ 32) else Done (retired t.fixed.pc (word_of (instr_in x)) None)) is.op_is

pub branch_ways : (t : Turn) (walk : List Entry) (pa : ℕ) (leaf : List Atom) → IsFetched t walk pa → (op : Op) → is_branch op ≡ true → IsWays t walk pa leaf op (forks t FetchMisaligned (branch_goes op t.fixed.pc))
branch_ways t walk pa leaf f op b = (forks_ways t walk pa leaf op FetchMisaligned (branch_goes op t.fixed.pc) f (branch_no_csr op b) (all_asked t op (branch_no_csr op b)) refl
    (λ x is h. retires_by t op x (subst (λ (s : Script Change). Ended t.fixed (word_of (instr_in x)) s) (sym (branch_taken t op x b is))
    (branch_ends t.fixed (word_of (instr_in x)) ((t.fixed.pc + x slots.Imm) % 2 ^ 32) (is_taken op (x slots.A) (x slots.B)) h)))
    (λ x is h. record { value = (t.fixed.pc + x slots.Imm) % 2 ^ 32; ends = branch_taken t op x b is ∙ branch_fails t.fixed (word_of (instr_in x)) ((t.fixed.pc + x slots.Imm) % 2 ^ 32) (is_taken op (x slots.A) (x slots.B)) h }))

pub branches_are_exact : BranchesAreExact
branches_are_exact t walk pa leaf p op b = exact t walk pa leaf op (forks t FetchMisaligned (branch_goes op t.fixed.pc)) p (branch_ways t walk pa leaf p.fetched op b)

-- ECALL, EBREAK, ILLEGAL, SFENCE.VMA
pub call_ways : (t : Turn) (walk : List Entry) (pa : ℕ) (leaf : List Atom) → IsFetched t walk pa → IsWays t walk pa leaf Ecall (traps t (call_cause t.fixed.privilege))
call_ways t walk pa leaf f = (traps_ways t walk pa leaf Ecall (call_cause t.fixed.privilege) f refl (λ x is. record { first = refl; second = refl }) (λ x is. record { value = 0; ends = refl }))

pub call_is_exact : CallIsExact
call_is_exact t walk pa leaf p = exact t walk pa leaf Ecall (traps t (call_cause t.fixed.privilege)) p (call_ways t walk pa leaf p.fetched)

pub break_ways : (t : Turn) (walk : List Entry) (pa : ℕ) (leaf : List Atom) → IsFetched t walk pa → IsWays t walk pa leaf Ebreak (traps t Breakpoint)
break_ways t walk pa leaf f = (traps_ways t walk pa leaf Ebreak Breakpoint f refl (λ x is. record { first = refl; second = refl }) (λ x is. record { value = t.fixed.pc; ends = refl }))

pub break_is_exact : BreakIsExact
break_is_exact t walk pa leaf p = exact t walk pa leaf Ebreak (traps t Breakpoint) p (break_ways t walk pa leaf p.fetched)

pub illegal_ways : (t : Turn) (walk : List Entry) (pa : ℕ) (leaf : List Atom) → IsFetched t walk pa → IsWays t walk pa leaf IllegalOp (traps t Illegal)
illegal_ways t walk pa leaf f = (traps_ways t walk pa leaf IllegalOp Illegal f refl (λ x is. record { first = refl; second = refl }) (λ x is. record { value = word_of (instr_in x); ends = refl }))

pub illegal_is_exact : IllegalIsExact
illegal_is_exact t walk pa leaf p = exact t walk pa leaf IllegalOp (traps t Illegal) p (illegal_ways t walk pa leaf p.fetched)

pub address_fence_ways : (t : Turn) (walk : List Entry) (pa : ℕ) (leaf : List Atom) → IsFetched t walk pa → IsWays t walk pa leaf SfenceVma (fence_ways t)
unfolding address_fence_row
address_fence_ways t walk pa leaf f = go (is_withheld Tvm t.fixed) refl
  where
    go : (b : Bool) → is_withheld Tvm t.fixed ≡ b → IsWays t walk pa leaf SfenceVma (if b then traps t Illegal else retires)
    go true h = traps_ways t walk pa leaf SfenceVma Illegal f refl (λ x is. record { first = refl; second = refl }) (λ x is. record { value = word_of (instr_in x); ends = if_yes (is_withheld Tvm t.fixed) _ _ h })
    go false h = retires_ways t walk pa leaf SfenceVma f refl (λ x is. refl)
        (λ x is. retires_by t SfenceVma x (ended_by t.fixed (word_of (instr_in x)) None (following t.fixed.pc) _ (if_no (is_withheld Tvm t.fixed) _ _ h)))

pub fence_is_exact : AddressFenceIsExact
fence_is_exact t walk pa leaf p = exact t walk pa leaf SfenceVma (fence_ways t) p (address_fence_ways t walk pa leaf p.fetched)
