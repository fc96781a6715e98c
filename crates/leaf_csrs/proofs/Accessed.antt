-- What an instruction of given fields accesses, and what its operand's field is.
use Rattle.std.proofs.Common.{◌≡◌, ℕ, if◌then◌else◌, ◌&&◌, ◌||◌, Bool, true, false, eqb, List, [], ◌∷◌, Option, Some, refl, sym, ap, ◌∙◌, inl, inr}
use Rattle.std.proofs.lemmas.Bool.{and_from, and_parts, cases_Bool, eq-eqb, eqb-true, or_cases, or_left, or_right}
use Rattle.std.specs.Bool.{◌==◌}
use Rattle.std.specs.List.{find, list_any}
use Rattle.rv_isa.specs.declared.instruction.Instr.{Instr}
use Rattle.rv_isa.specs.declared.operation.Op.{Op}
use Rattle.rv_isa.specs.declared.table.Row.{Row}
use Rattle.rv_isa.specs.declared.table.Row.TheVariants.{Csr as CsrRow, CsrImmediate}
use Rattle.rv_isa.specs.Fields.{has_rs1}
use Rattle.rv_isa.specs.Table.{row_of}
use Rattle.rv_csr.specs.declared.access.CsrAccess.TheVariants.{Granted, Denied}
use Rattle.rv_csr.specs.declared.table.LazyRegister.TheVariants.{Stvec}
use Rattle.rv_csr.specs.declared.table.Register.{Register}
use Rattle.rv_csr.specs.declared.table.Register.TheVariants.{Sstatus, Satp, Mstatus, Medeleg, Mhartid, Lazy}
use Rattle.rv_csr.specs.Access.{access_to, is_denied, is_read_only}
use Rattle.rv_csr.specs.Table.{address_of, register_at, registers}
use Rattle.rv_script.specs.Lists.{HasItem}
use Rattle.rv_hart.specs.Privileged.{writes_csr}
use Rattle.fd_prob.specs.declared.slot.Slot.TheVariants as slots
use Rattle.leaf_link.specs.Controls.{access_in, writes_in}
use Rattle.leaf_link.specs.Values.{Values, field_of_operand, has_csr_operand, instr_in}
use Rattle.leaf_link.specs.Ways.{IsOf}
use Rattle.leaf_stand.specs.declared.stand.Stand.{Stand}
use Rattle.leaf_stand.specs.Stands.{turn_of}

-- REGISTERS BY THEIR ADDRESSES
-- what a search finds passes
find_passes : {X : Type 0} (p : X → Bool) (xs : List X) (x : X) → find p xs ≡ Some x → p x ≡ true
find_passes p [] x e = cc
find_passes p (y ∷ ys) x e = elim (cases_Bool (p y)) [
  | inl on ↦ let same : y ≡ x = (let f = rw on at e in cc) in rw (← same) on
  | inr off ↦ find_passes p ys x (rw off at e)
]

pub has_address : (v : ℕ) (register : Register) → register_at v ≡ Some register → address_of register ≡ v
has_address v register e = eqb-true _ _ (find_passes (λ (r : Register). address_of r == v) registers register e)

pub at_address : (register : Register) → register_at (address_of register) ≡ Some register
at_address Sstatus = refl
at_address Satp = refl
at_address Mstatus = refl
at_address Medeleg = refl
at_address Mhartid = refl
at_address (Lazy Stvec) = refl
at_address (Lazy _) = refl

pub at_its : (v : ℕ) (register : Register) → address_of register ≡ v → register_at v ≡ Some register
at_its v register e = ap (λ (a : ℕ). register_at a) (sym e) ∙ at_address register

-- a search in the table finds its register in it
found_item : (p : Register → Bool) (rs : List Register) (r : Register) → find p rs ≡ Some r → HasItem rs r
found_item p [] r e = cc
found_item p (y ∷ ys) r e = elim (cases_Bool (p y)) [
  | inl on ↦ inl (let f = rw on at e in cc)
  | inr off ↦ inr (found_item p ys r (rw off at e))
]

pub is_listed : (v : ℕ) (register : Register) → register_at v ≡ Some register → HasItem registers register
is_listed v register e = found_item (λ (r : Register). address_of r == v) registers register e

-- a register at an address that passes a test
pub record IsAt (v : ℕ) (q : Register → Bool) : Type 0 where
  pub register : Register
  pub address : address_of register ≡ v
  pub passes : q register ≡ true

pub found : (v : ℕ) (q : Register → Bool) (rs : List Register) → list_any (λ register. eqb (address_of register) v && q register) rs ≡ true → IsAt v q
found v q [] h = absurd (cc)
found v q (r ∷ rs) h = elim (or_cases _ _ h) [
  | inl here ↦ let p = and_parts (eqb (address_of r) v) (q r) here in record { register = r; address = eqb-true _ _ p.0; passes = p.1 }
  | inr later ↦ found v q rs later
]

pub finds : (v : ℕ) (q : Register → Bool) (rs : List Register) (r : Register) → HasItem rs r → address_of r ≡ v → q r ≡ true → list_any (λ register. eqb (address_of register) v && q register) rs ≡ true
finds v q [] r i e h = absurd i
finds v q (y ∷ ys) r i e h = elim i [
  | inl same ↦ or_left _ _ (ap (λ (z : Register). eqb (address_of z) v && q z) same ∙ and_from _ _ (eq-eqb _ _ e) h)
  | inr j ↦ or_right _ _ (finds v q ys r j e h)
]

-- THE FIELD OF THE OPERAND
pub field_said : (row : Row) (i : Instr) → has_csr_operand row ≡ true → (own test : ℕ → Bool) → ((v : ℕ) → own v ≡ true → test v ≡ true)
    → (if has_rs1 row then own i.rs1 else true) ≡ true → (if has_rs1 row then true else test i.imm) ≡ true → test (field_of_operand row i) ≡ true
field_said (CsrRow opcode funct3) i h own test more first second = more i.rs1 first
field_said (CsrImmediate opcode funct3) i h own test more first second = second
field_said _ i h own test more first second = absurd (cc)

pub first_says : (row : Row) (i : Instr) → has_csr_operand row ≡ true → (own test : ℕ → Bool) → (has_rs1 row ≡ true → test i.rs1 ≡ true → own i.rs1 ≡ true) → test (field_of_operand row i) ≡ true
    → (if has_rs1 row then own i.rs1 else true) ≡ true
first_says (CsrRow opcode funct3) i h own test more said = more refl said
first_says (CsrImmediate opcode funct3) i h own test more said = refl
first_says _ i h own test more said = absurd (cc)

pub second_says : (row : Row) (i : Instr) → has_csr_operand row ≡ true → (test : ℕ → Bool) → test (field_of_operand row i) ≡ true → (if has_rs1 row then true else test i.imm) ≡ true
second_says (CsrRow opcode funct3) i h test said = refl
second_says (CsrImmediate opcode funct3) i h test said = said
second_says _ i h test said = absurd (cc)

-- THE ACCESS
abbrev pub writes_by : Op → Values → Bool
writes_by op x = writes_csr op (field_of_operand (row_of op) (instr_in x))

-- it is denied
abbrev pub is_barred : Stand → Op → Values → Register → Bool
is_barred s op x register = is_denied s.csrs.mstatus register s.privilege || (writes_by op x && is_read_only register)

pub access_is : (s : Stand) (op : Op) (x : Values) (o : Option Register) → IsOf op x → register_at (x slots.Csr) ≡ o → access_in (turn_of s).fixed (instr_in x) ≡ access_to s.csrs.mstatus s.privilege (writes_by op x) o
access_is s op x o is e =
    ap (λ (q : Option Register). access_to s.csrs.mstatus s.privilege (writes_in (instr_in x)) q) e
    ∙ ap (λ (a : Op). access_to s.csrs.mstatus s.privilege (writes_csr a (field_of_operand (row_of a) (instr_in x))) o) is.op_is

pub barred_access : (s : Stand) (op : Op) (x : Values) (register : Register) → IsOf op x → register_at (x slots.Csr) ≡ Some register → is_barred s op x register ≡ true → access_in (turn_of s).fixed (instr_in x) ≡ Denied
barred_access s op x register is e h = access_is s op x (Some register) is e ∙ ap (λ (b : Bool). if b then Denied else Granted register) h

pub free_access : (s : Stand) (op : Op) (x : Values) (register : Register) → IsOf op x → register_at (x slots.Csr) ≡ Some register → is_barred s op x register ≡ false → access_in (turn_of s).fixed (instr_in x) ≡ Granted register
free_access s op x register is e h = access_is s op x (Some register) is e ∙ ap (λ (b : Bool). if b then Denied else Granted register) h
