-- Only a CSR instruction with the address of satp writes satp.
use Rattle.std.proofs.Common.{◌≡◌, ℕ, if◌then◌else◌, ◌&&◌, ◌+◌, ◌%◌, ◌^◌, Bool, true, false, eqb, List, [], ◌∷◌, Option, Some, None, refl, sym, ap, ◌∙◌, subst}
use Rattle.std.specs.Prelude.{◌==◌, cond, find}
use Rattle.std.proofs.lemmas.Bool.{eq-eqb, eqb-true}
use Rattle.rv_isa.specs.declared.instruction.Instr.{Instr}
use Rattle.rv_isa.specs.declared.table.Row.{Row}
use Rattle.rv_isa.specs.declared.table.Row.TheVariants.{R, I, Shift, S, B, U, J, Csr as CsrRow, CsrImmediate, FenceSets, AddressFence, Fixed as Whole, DefinedIllegal}
use Rattle.rv_isa.specs.Encoding.{word_of}
use Rattle.rv_isa.specs.Table.{row_of}
use Rattle.rv_csr.specs.declared.access.CsrAccess.{CsrAccess}
use Rattle.rv_csr.specs.declared.access.CsrAccess.TheVariants.{Granted, Denied, Outside as NotModelled}
use Rattle.rv_csr.specs.declared.cause.Cause.{Cause}
use Rattle.rv_csr.specs.declared.privilege.Priv.{Priv}
use Rattle.rv_csr.specs.declared.table.Register.{Register}
use Rattle.rv_csr.specs.declared.table.Register.TheVariants.{Sstatus, Satp, Mstatus, Medeleg, Mhartid, Lazy}
use Rattle.rv_csr.specs.Access.{access_of, access_to}
use Rattle.rv_csr.specs.Table.{address_of, register_at, registers}
use Rattle.rv_script.specs.Script.{Script, Script.Done}
use Rattle.rv_script.specs.Logs.{by_answers}
use Rattle.rv_script.proofs.Results.{Ends, ended, ends_then}
use Rattle.sv_walk.specs.declared.entry.Kind.{Kind}
use Rattle.sv_walk.specs.declared.entry.Kind.TheVariants.{Load as ForLoad, Store as ForStore}
use Rattle.sv_walk.specs.declared.entry.View.{View}
use Rattle.sv_walk.specs.Translation.{Reached, At, Fails, translated}
use Rattle.rv_hart.specs.declared.record.Change.{Change}
use Rattle.rv_hart.specs.Fixed.{Fixed}
use Rattle.rv_hart.specs.Machine.{arriving, at_address, data_view, fence_row, jump_row, jumped, load_at, load_from, reached, store_at, store_to, upper_pc_row, upper_row}
use Rattle.rv_hart.specs.Privileged.{address_fence_row, csr_accessed, csr_exchanged, csr_granted, csr_immediate_row, mret_row, old_value, sret_row, trap, write_csr, writes_csr}
use Rattle.rv_hart.specs.Rests.{after_access, csr_access, rest}
use Rattle.leaf_link.specs.Values.{Values, given_by, has_csr_operand, instr_in}
use Rattle.leaf_link.specs.Placing.{KeepsSatp, StepsKeepSatp, IsNotSatp, accesses_satp}
use Rattle.leaf_link.specs.Problems.{key_of}
use Rattle.leaf_link.proofs.Links.{instr_assigned}
use Rattle.leaf_link.proofs.Front.{rest_of, told_a, told_b}
use Rattle.leaf_link.proofs.Placing.{in_parts_of}

-- ---- the register at an address

found_at : (v : ℕ) (rs : List Register) (r : Register) → find (λ register. address_of register == v) rs ≡ Some r → (address_of r == v) ≡ true
found_at v [] r h = absurd (cc)
found_at v (q ∷ rs) r h = go (address_of q == v) refl h (found_at v rs r)
  where
    go : (b : Bool) → (address_of q == v) ≡ b → cond b (Some q) (find (λ register. address_of register == v) rs) ≡ Some r → (find (λ register. address_of register == v) rs ≡ Some r → (address_of r == v) ≡ true)
        → (address_of r == v) ≡ true
    go true is h more = let same : q ≡ r = cc in subst (λ (p : Register). (address_of p == v) ≡ true) same is
    go false is h more = more h

kept_at : (register : Register) (addr : ℕ) → (address_of register == addr) ≡ true → eqb addr 0x180 ≡ false → IsNotSatp register
kept_at Satp addr at apart = (let here : eqb addr 0x180 ≡ true = eq-eqb addr 0x180 (sym (eqb-true 0x180 addr at)) in absurd (cc (sym here ∙ apart)))
kept_at Sstatus addr at apart = tt
kept_at Mstatus addr at apart = tt
kept_at Medeleg addr at apart = tt
kept_at Mhartid addr at apart = tt
kept_at (Lazy register) addr at apart = tt

-- what is granted at another address than that of satp is another register
granted_kept : (status addr : ℕ) (p : Priv) (writes : Bool) (register : Register) → eqb addr 0x180 ≡ false → access_of status addr p writes ≡ Granted register → IsNotSatp register
granted_kept status addr p writes register apart is = go (register_at addr) refl is
  where
    granted : (denied : Bool) (r : Register) → (if denied then Denied else Granted r) ≡ Granted register → r ≡ register
    granted true r h = absurd (cc h)
    granted false r h = cc h

    go : (o : Option Register) → register_at addr ≡ o → access_to status p writes o ≡ Granted register → IsNotSatp register
    go None at h = absurd (cc h)
    go (Some r) at h = subst IsNotSatp (granted _ r h) (kept_at r addr (found_at addr registers r at) apart)

-- ---- the ends of a rest

abbrev Keeps : Change → Type 0
Keeps c = KeepsSatp c.control

if_keeps : (b : Bool) (s t : Script Change) → Ends Keeps s → Ends Keeps t → Ends Keeps (if b then s else t)
if_keeps true s t h k = h
if_keeps false s t h k = k

trap_keeps : (f : Fixed) (word : ℕ) (cause : Cause) (value : ℕ) → Ends Keeps (trap f word cause value)
unfolding trap
trap_keeps f word cause value = λ v. tt

arriving_keeps : (f : Fixed) (word va : ℕ) (next : ℕ → Script Change) (r : Reached) → ((pa : ℕ) → Ends Keeps (next pa)) → Ends Keeps (arriving f word va next r)
arriving_keeps f word va next (At pa) k = k pa
arriving_keeps f word va next (Fails cause) k = trap_keeps f word cause va

address_keeps : (kind : Kind) (f : Fixed) (word : ℕ) (v : View) (va : ℕ) (next : ℕ → Script Change) → ((pa : ℕ) → Ends Keeps (next pa)) → Ends Keeps (at_address f word v kind va next)
unfolding at_address
address_keeps kind f word v va next k = ends_then Keeps (translated f.ram v kind va) (arriving f word va next) (λ r. arriving_keeps f word va next r k)

reached_keeps : (kind : Kind) (f : Fixed) (word addr size : ℕ) (cause : Cause) (next : ℕ → Script Change) → ((pa : ℕ) → Ends Keeps (next pa)) → Ends Keeps (reached f word kind addr size cause next)
reached_keeps kind f word addr size cause next k = let h = address_keeps kind f word (data_view f) addr next k in search (if_keeps, trap_keeps, h)

load_keeps : (f : Fixed) (word : ℕ) (i : Instr) (addr : ℕ) → Ends Keeps (load_from f word i addr)
unfolding load_at
load_keeps f word i addr = reached_keeps ForLoad f word addr _ _ (load_at f word i) (λ pa v. tt)

store_keeps : (f : Fixed) (word : ℕ) (i : Instr) (addr value : ℕ) → Ends Keeps (store_to f word i addr value)
unfolding store_at
store_keeps f word i addr value = reached_keeps ForStore f word addr _ _ (store_at f word i value) (λ pa v. tt)

jumped_keeps : (f : Fixed) (word : ℕ) (rd : Option (ℕ × ℕ)) (target : ℕ) → Ends Keeps (jumped f word rd target)
jumped_keeps f word rd target = search (if_keeps, trap_keeps, tt)

write_keeps : (f : Fixed) (word : ℕ) (rd : Option (ℕ × ℕ)) (register : Register) (value : ℕ) → IsNotSatp register → Ends Keeps (write_csr f word rd register value)
write_keeps f word rd register value kept = search (if_keeps, kept, tt)

exchanged_keeps : (f : Fixed) (word : ℕ) (i : Instr) (writes : Bool) (register : Register) (operand old : ℕ) → IsNotSatp register → Ends Keeps (csr_exchanged f word i writes register operand old)
exchanged_keeps f word i true register operand old kept = write_keeps f word _ register _ kept
exchanged_keeps f word i false register operand old kept = tt

granted_keeps : (f : Fixed) (word : ℕ) (i : Instr) (writes : Bool) (register : Register) (operand : ℕ) → IsNotSatp register → Ends Keeps (csr_granted f word i writes register operand)
unfolding csr_granted
granted_keeps f word i writes register operand kept =
    let h = ends_then Keeps (old_value f register) (csr_exchanged f word i writes register operand) (λ old. exchanged_keeps f word i writes register operand old kept) in
    let w = write_keeps f word None register operand kept in
    search (if_keeps, h, w)

access_keeps : (f : Fixed) (word : ℕ) (i : Instr) (access : CsrAccess) (a : ℕ) → ((register : Register) → access ≡ Granted register → IsNotSatp register) → Ends Keeps (after_access f word i access a)
access_keeps f word i (Granted register) a kept = granted_keeps f word i _ register a (kept register refl)
access_keeps f word i Denied a kept = trap_keeps f word _ word
access_keeps f word i NotModelled a kept = tt

immediate_keeps : (f : Fixed) (word : ℕ) (i : Instr) (access : CsrAccess) (writes : Bool) → ((register : Register) → access ≡ Granted register → IsNotSatp register) → Ends Keeps (csr_accessed f word i writes access (Done i.imm))
immediate_keeps f word i (Granted register) writes kept = granted_keeps f word i writes register i.imm (kept register refl)
immediate_keeps f word i Denied writes kept = trap_keeps f word _ word
immediate_keeps f word i NotModelled writes kept = tt

mret_keeps : (f : Fixed) (word : ℕ) → Ends Keeps (mret_row f word)
unfolding mret_row
mret_keeps f word = search (if_keeps, trap_keeps, tt)

sret_keeps : (f : Fixed) (word : ℕ) → Ends Keeps (sret_row f word)
unfolding sret_row
sret_keeps f word = search (if_keeps, trap_keeps, tt)

apart_from : (i : Instr) (row : Row) → row_of i.op ≡ row → has_csr_operand row ≡ true → accesses_satp i ≡ false → eqb i.csr 0x180 ≡ false
apart_from i row is has none = ap (λ (b : Bool). b && eqb i.csr 0x180) (sym has) ∙ ap (λ (r : Row). has_csr_operand r && eqb i.csr 0x180) (sym is) ∙ none

rest_keeps : (row : Row) (f : Fixed) (word : ℕ) (i : Instr) (a b : ℕ) → row_of i.op ≡ row → accesses_satp i ≡ false → Ends Keeps (rest row f word i a b)
unfolding upper_row upper_pc_row jump_row fence_row csr_immediate_row address_fence_row
rest_keeps (R opcode funct3 funct7) f word i a b is none = tt
rest_keeps (Shift opcode funct3 funct7) f word i a b is none = tt
rest_keeps (I opcode funct3) f word i a b is none = let loads = load_keeps f word i ((a + i.imm) % 2 ^ 32) in search (if_keeps, loads, jumped_keeps, tt)
rest_keeps (S opcode funct3) f word i a b is none = store_keeps f word i _ b
rest_keeps (B opcode funct3) f word i a b is none = search (if_keeps, jumped_keeps, tt)
rest_keeps (CsrRow opcode funct3) f word i a b is none =
    let apart = apart_from i (CsrRow opcode funct3) is refl none in
    access_keeps f word i (csr_access f i) a (λ register granted. granted_kept f.mstatus i.csr f.privilege (writes_csr i.op i.rs1) register apart granted)
rest_keeps (U opcode) f word i a b is none = search (if_keeps, tt)
rest_keeps (J opcode) f word i a b is none = search (if_keeps, jumped_keeps, tt)
rest_keeps (FenceSets opcode funct3) f word i a b is none = search (if_keeps, tt)
rest_keeps (CsrImmediate opcode funct3) f word i a b is none =
    let apart = apart_from i (CsrImmediate opcode funct3) is refl none in
    if_keeps (eqb opcode 0x73) _ _
    (immediate_keeps f word i (access_of f.mstatus i.csr f.privilege (writes_csr i.op i.imm)) (writes_csr i.op i.imm)
    (λ register granted. granted_kept f.mstatus i.csr f.privilege (writes_csr i.op i.imm) register apart granted)) tt
rest_keeps (AddressFence opcode funct3 funct7) f word i a b is none = search (if_keeps, trap_keeps, tt)
rest_keeps (Whole bits) f word i a b is none =
    if_keeps (eqb bits 0x0000_0073) _ _ (trap_keeps f word _ 0)
    (if_keeps (eqb bits 0x0010_0073) _ _ (trap_keeps f word _ f.pc)
    (if_keeps (eqb bits 0x3020_0073) _ _ (mret_keeps f word)
    (if_keeps (eqb bits 0x1020_0073) _ _ (sret_keeps f word) tt)))
rest_keeps DefinedIllegal f word i a b is none = trap_keeps f word _ word

pub steps_keep_satp : StepsKeepSatp
steps_keep_satp t walk pa leaf new f w none =
    let x : Values = key_of t leaf new w in
    let p = in_parts_of t walk pa leaf new f w in
    let own : instr_in x ≡ w.instr = instr_assigned t.fixed t.known w.log w.instr in
    let rest_is = rest_keeps (row_of w.instr.op) t.fixed (word_of (instr_in x)) (instr_in x) (told_a t w.instr.op x) (told_b t w.instr.op x) (ap (λ (j : Instr). row_of j.op) own) (ap accesses_satp own ∙ none) in
    ended Keeps (rest_of t w.instr.op x (told_a t w.instr.op x) (told_b t w.instr.op x)) (by_answers t.known (given_by x)) p.rest w.change rest_is p.plays
