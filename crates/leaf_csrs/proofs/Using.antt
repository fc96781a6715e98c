-- What fits a usage of a register is granted, and what is granted fits one.
use Rattle.std.proofs.Common.{◌≡◌, ℕ, ◌-◌, ◌^◌, if◌then◌else◌, ◌&&◌, ◌||◌, not, Bool, true, false, eqb, [], Option, Some, None, refl, sym, ap, ◌∙◌, subst, inl, inr}
use Rattle.std.specs.Prelude.{bit_and, bit_or}
use Rattle.std.proofs.lemmas.Bool.{and_cases, and_from, and_left, and_parts, and_right, cases_Bool, eq-eqb, eqb-true, not-false, or_from, or_parts}
use Rattle.rv_isa.specs.declared.operation.Op.{Op}
use Rattle.rv_isa.specs.declared.operation.Op.TheVariants.{Csrrw, Csrrs, Csrrc, Csrrwi, Csrrsi, Csrrci}
use Rattle.rv_isa.specs.Fields.{has_rs1}
use Rattle.rv_isa.specs.Table.{row_of}
use Rattle.rv_csr.specs.declared.access.CsrAccess.{CsrAccess}
use Rattle.rv_csr.specs.declared.access.CsrAccess.TheVariants.{Granted, Denied}
use Rattle.rv_csr.specs.declared.table.Register.{Register}
use Rattle.rv_csr.specs.Access.{access_to, is_denied, is_read_only}
use Rattle.rv_csr.specs.Table.{address_of, is_legal, is_legal_for, register_at}
use Rattle.rv_script.specs.declared.place.Place.TheVariants.{Reg}
use Rattle.rv_script.specs.Lists.{HasItem}
use Rattle.rv_hart.specs.Privileged.{csr_result, is_swap, writes_csr}
use Rattle.fd_prob.specs.declared.slot.Slot.{Slot}
use Rattle.fd_prob.specs.declared.slot.Slot.TheVariants as slots
use Rattle.fd_prob.specs.Relations.{is_none_or_legal}
use Rattle.leaf_link.specs.Cases.{is_some_word, unless}
use Rattle.leaf_link.specs.Controls.{access_in, grants, is_read_old, old_new, operand_in}
use Rattle.leaf_link.specs.Turns.{is_narrow, is_small, may_be_source}
use Rattle.leaf_link.specs.Values.{Values, field_of_operand, has_csr_operand, instr_in}
use Rattle.leaf_link.specs.Ways.{IsOf}
use Rattle.leaf_stand.specs.declared.stand.Stand.{Stand}
use Rattle.leaf_stand.specs.Stands.{turn_of}
use Rattle.leaf_csrs.specs.declared.usage.Usage.{Usage}
use Rattle.leaf_csrs.specs.declared.usage.Usage.TheVariants.{Replaces, Swaps, Changes, Looks}
use Rattle.leaf_csrs.specs.Usages.{field_test, has_source, old_test, rd_test, source_test, usage_test, usages, written_in}
use Rattle.leaf_csrs.specs.Laws.{GrantedAreUsages, HasUsage, UsagesAreGranted}
use Rattle.leaf_csrs.proofs.Accessed.{access_is, at_address, at_its, barred_access, field_said, first_says, free_access, has_address, is_barred, is_listed, second_says, writes_by}

-- WHICH USAGES AN OPERATION HAS
-- always writing
abbrev swaps : Usage → Bool
swaps Replaces = true
swaps Swaps = true
swaps Changes = false
swaps Looks = false

-- only reading
abbrev looks : Usage → Bool
looks Replaces = false
looks Swaps = false
looks Changes = false
looks Looks = true

record IsUsage (denied swap read_only : Bool) (usage : Usage) : Type 0 where
  free : denied ≡ false
  swaps_is : swap ≡ swaps usage
  looks_is : read_only ≡ looks usage

is_usage : (denied swap read_only : Bool) (usage : Usage) → HasItem (if denied then [] else usages swap read_only) usage → IsUsage denied swap read_only usage
is_usage true swap read_only usage i = absurd i
is_usage false true true usage i = absurd i
is_usage false true false usage i = elim i [
  | inl e ↦ subst (λ (u : Usage). IsUsage false true false u) e (record { free = refl; swaps_is = refl; looks_is = refl })
  | inr j ↦ elim j [
    | inl e ↦ subst (λ (u : Usage). IsUsage false true false u) e (record { free = refl; swaps_is = refl; looks_is = refl })
    | inr k ↦ absurd k
  ]
]
is_usage false false true usage i = elim i [
  | inl e ↦ subst (λ (u : Usage). IsUsage false false true u) e (record { free = refl; swaps_is = refl; looks_is = refl })
  | inr k ↦ absurd k
]
is_usage false false false usage i = elim i [
  | inl e ↦ subst (λ (u : Usage). IsUsage false false false u) e (record { free = refl; swaps_is = refl; looks_is = refl })
  | inr k ↦ absurd k
]

-- the usage of an access that is granted, by its fields
record IsChosen (swap read_only : Bool) (rd field : ℕ) : Type 0 where
  usage : Usage
  swaps_is : swap ≡ swaps usage
  looks_is : read_only ≡ looks usage
  listed : HasItem (usages swap read_only) usage
  rd_is : rd_test usage rd ≡ true
  field_is : field_test usage field ≡ true

chosen : (swap read_only : Bool) (rd field : ℕ) → ((swap || not (eqb field 0)) && read_only) ≡ false → IsChosen swap read_only rd field
chosen true true rd field h = absurd (cc)
chosen true false rd field h = elim (cases_Bool (eqb rd 0)) [
  | inl z ↦ record { usage = Replaces; swaps_is = refl; looks_is = refl; listed = inl refl; rd_is = z; field_is = refl }
  | inr n ↦ record { usage = Swaps; swaps_is = refl; looks_is = refl; listed = inr (inl refl); rd_is = ap not n; field_is = refl }
]
chosen false true rd field h = elim (and_cases (not (eqb field 0)) true h) [
  | inl z ↦ record { usage = Looks; swaps_is = refl; looks_is = refl; listed = inl refl; rd_is = refl; field_is = not-false (eqb field 0) z }
  | inr n ↦ absurd (cc)
]
chosen false false rd field h = record { usage = Changes; swaps_is = refl; looks_is = refl; listed = inl refl; rd_is = refl; field_is = refl }

-- a usage writes nothing that may only be read
unbarred : (usage : Usage) (swap read_only : Bool) (field : ℕ) → swap ≡ swaps usage → read_only ≡ looks usage → field_test usage field ≡ true → ((swap || not (eqb field 0)) && read_only) ≡ false
unbarred Replaces swap read_only field e r h = and_right _ _ r
unbarred Swaps swap read_only field e r h = and_right _ _ r
unbarred Changes swap read_only field e r h = and_right _ _ r
unbarred Looks swap read_only field e r h = and_left _ _ (or_from _ _ e (ap not h))

-- THE OLD VALUE
abbrev read_value : Stand → Register → Bool → ℕ → ℕ → Bool
read_value s register swap rd old = if not (swap && eqb rd 0) then is_read_old (turn_of s) register old else eqb old 0

old_is : (s : Stand) (register : Register) (usage : Usage) (swap : Bool) (rd old : ℕ) → swap ≡ swaps usage → rd_test usage rd ≡ true → read_value s register swap rd old ≡ old_test s register usage old
old_is s register Replaces swap rd old e h =
    ap (λ (b : Bool). read_value s register b rd old) e ∙ ap (λ (b : Bool). if not b then is_read_old (turn_of s) register old else eqb old 0) h
old_is s register Swaps swap rd old e h =
    ap (λ (b : Bool). read_value s register b rd old) e ∙ ap (λ (b : Bool). if b then is_read_old (turn_of s) register old else eqb old 0) h
old_is s register Changes swap rd old e h = ap (λ (b : Bool). read_value s register b rd old) e
old_is s register Looks swap rd old e h = ap (λ (b : Bool). read_value s register b rd old) e

-- WHAT IS WRITTEN
legal_at : (register : Register) (n : ℕ) → is_none_or_legal (address_of register) (Some n) ≡ is_legal register n
legal_at register n = ap (λ (o : Option Register). is_legal_for o n) (at_address register)

legal_where : (nothing : Bool) (register : Register) (n : ℕ) → is_none_or_legal (address_of register) (if nothing then None else Some n) ≡ unless (not nothing) (is_legal register n)
legal_where true register n = refl
legal_where false register n = legal_at register n

abbrev legal_by : Op → Values → Register → Bool
legal_by op x register = unless (writes_by op x) (is_legal register (csr_result op (x slots.OldCsr) (operand_in (row_of op) x)))

legal_is : (op : Op) → has_csr_operand (row_of op) ≡ true → (x : Values) (register : Register) → is_none_or_legal (address_of register) (written_in op x) ≡ legal_by op x register
legal_is Csrrw h x register = legal_at register (x slots.A)
legal_is Csrrs h x register = legal_where (eqb (x slots.Rs1) 0) register (bit_or (x slots.OldCsr) (x slots.A))
legal_is Csrrc h x register = legal_where (eqb (x slots.Rs1) 0) register (bit_and (x slots.OldCsr) (2 ^ 32 - 1 - x slots.A))
legal_is Csrrwi h x register = legal_at register (x slots.Imm)
legal_is Csrrsi h x register = legal_where (eqb (x slots.Imm) 0) register (bit_or (x slots.OldCsr) (x slots.Imm))
legal_is Csrrci h x register = legal_where (eqb (x slots.Imm) 0) register (bit_and (x slots.OldCsr) (2 ^ 32 - 1 - x slots.Imm))
legal_is _ h x register = absurd (cc)

-- WHAT IS GRANTED
-- of a register to which the instruction has access
abbrev granted_by : Stand → Op → Values → Register → Bool
granted_by s op x register = read_value s register (is_swap op) (x slots.Rd) (x slots.OldCsr) && legal_by op x register

abbrev grants_in : Stand → Op → Values → CsrAccess → Bool
grants_in s op x a = grants (turn_of s) a (instr_in x) (x slots.OldCsr) (operand_in (row_of op) x)

grants_is : (s : Stand) (op : Op) (x : Values) (register : Register) → IsOf op x → grants_in s op x (Granted register) ≡ granted_by s op x register
grants_is s op x register is =
    ap (λ (o : Op). read_value s register (is_swap o) (x slots.Rd) (x slots.OldCsr) && unless (writes_csr o (field_of_operand (row_of o) (instr_in x))) (is_legal register (csr_result o (x slots.OldCsr) (operand_in (row_of op) x)))) is.op_is

-- THE SOURCE
turned : (a b c : Bool) → (a || (b || c)) ≡ (c || (a || b))
turned true b true = refl
turned true b false = refl
turned false true true = refl
turned false true false = refl
turned false false c = or_none c
  where
    or_none : (c : Bool) → c ≡ (c || false)
    or_none true = refl
    or_none false = refl

abbrev sourced : Stand → Values → Bool
sourced s x = is_some_word ((turn_of s).known (Reg (x slots.Rs1))) || may_be_source (turn_of s) (instr_in x)

source_is : (s : Stand) (op : Op) (x : Values) (register : Register) → IsOf op x → address_of register ≡ x slots.Csr → source_test s op register (x slots.Rs1) ≡ sourced s x
source_is s op x register is at =
    ap (λ (a : ℕ). not (is_narrow (row_of op) a) || (is_small (turn_of s).sources || is_some_word ((turn_of s).known (Reg (x slots.Rs1))))) at
    ∙ ap (λ (o : Op). not (is_narrow (row_of o) (x slots.Csr)) || (is_small (turn_of s).sources || is_some_word ((turn_of s).known (Reg (x slots.Rs1))))) (sym is.op_is)
    ∙ turned (not (is_narrow (row_of (instr_in x).op) (x slots.Csr))) (is_small (turn_of s).sources) (is_some_word ((turn_of s).known (Reg (x slots.Rs1))))

unless_from : (used test : Bool) → (used ≡ true → test ≡ true) → unless used test ≡ true
unless_from true test h = h refl
unless_from false test h = refl

unless_used : (used test : Bool) → unless used test ≡ true → used ≡ true → test ≡ true
unless_used true test h u = h
unless_used false test h u = absurd (cc)

if_used : (used test : Bool) → (if used then test else true) ≡ true → used ≡ true → test ≡ true
if_used true test h u = h
if_used false test h u = absurd (cc)

-- THE LAWS
pub usages_are_granted : UsagesAreGranted
usages_are_granted s op h register usage listed i x is w =
    let used : IsUsage (is_denied s.csrs.mstatus register s.privilege) (is_swap op) (is_read_only register) usage = is_usage _ _ _ usage i in
    let said = λ (slot : Slot). (and_parts (old_new slot (x slot)) (usage_test s op register usage slot (x slot)) (w.each slot)).1 in
    let at : address_of register ≡ x slots.Csr = sym (eqb-true (x slots.Csr) (address_of register) (said slots.Csr)) in
    let field : field_test usage (field_of_operand (row_of op) (instr_in x)) ≡ true =
    field_said (row_of op) (instr_in x) h (λ v. field_test usage v && source_test s op register v) (field_test usage) (λ v b. (and_parts _ _ b).0) (said slots.Rs1) (said slots.Imm) in
    let free : is_barred s op x register ≡ false = or_from _ _ used.free (unbarred usage _ _ _ used.swaps_is used.looks_is field) in
    let access : access_in (turn_of s).fixed (instr_in x) ≡ Granted register = free_access s op x register is (at_its (x slots.Csr) register at) free in
    let old : read_value s register (is_swap op) (x slots.Rd) (x slots.OldCsr) ≡ true = old_is s register usage _ _ _ used.swaps_is (said slots.Rd) ∙ said slots.OldCsr in
    let legal : legal_by op x register ≡ true = sym (legal_is op h x register) ∙ (ap (λ (a : ℕ). is_none_or_legal a (written_in op x)) at ∙ w.holds) in (
      record {
        each = λ slot. (and_parts (old_new slot (x slot)) (usage_test s op register usage slot (x slot)) (w.each slot)).0;
        holds = ap (grants_in s op x) access ∙ (grants_is s op x register is ∙ and_from _ _ old legal);
      },
      unless_from (has_rs1 (row_of op)) _ (λ u. sym (source_is s op x register is at) ∙ (and_parts (field_test usage (x slots.Rs1)) (source_test s op register (x slots.Rs1)) (if_used _ _ (said slots.Rs1) u)).1),
    )

-- a register to which the instruction has access
granted_uses : (s : Stand) (op : Op) → has_csr_operand (row_of op) ≡ true → (x : Values) → IsOf op x → ((slot : Slot) → old_new slot (x slot) ≡ true) → has_source s op x ≡ true
    → (register : Register) → register_at (x slots.Csr) ≡ Some register → is_barred s op x register ≡ false → granted_by s op x register ≡ true → HasUsage s op x
granted_uses s op h x is olds source register at barred g =
    let free = or_parts (is_denied s.csrs.mstatus register s.privilege) (writes_by op x && is_read_only register) barred in
    let c : IsChosen (is_swap op) (is_read_only register) (x slots.Rd) (field_of_operand (row_of op) (instr_in x)) = chosen _ _ _ _ free.1 in
    let parts = and_parts (read_value s register (is_swap op) (x slots.Rd) (x slots.OldCsr)) (legal_by op x register) g in
    let address : address_of register ≡ x slots.Csr = has_address (x slots.Csr) register at in
    record {
      register = register;
      usage = c.usage;
      register_is = is_listed (x slots.Csr) register at;
      usage_is = subst (λ (b : Bool). HasItem (if b then [] else usages (is_swap op) (is_read_only register)) c.usage) (sym free.0) c.listed;
      fits = record {
        each = λ slot. and_from (old_new slot (x slot)) (usage_test s op register c.usage slot (x slot)) (olds slot) (said c.usage c.field_is c.rd_is (sym (old_is s register c.usage _ _ _ c.swaps_is c.rd_is) ∙ parts.0) address slot);
        holds = ap (λ (a : ℕ). is_none_or_legal a (written_in op x)) (sym address) ∙ (legal_is op h x register ∙ parts.1);
      };
    }
  where
    said : (usage : Usage) → field_test usage (field_of_operand (row_of op) (instr_in x)) ≡ true → rd_test usage (x slots.Rd) ≡ true → old_test s register usage (x slots.OldCsr) ≡ true → address_of register ≡ x slots.Csr
        → (slot : Slot) → usage_test s op register usage slot (x slot) ≡ true
    said usage field rd old address slots.Rs1 =
        first_says (row_of op) (instr_in x) h (λ v. field_test usage v && source_test s op register v) (field_test usage)
        (λ u f. and_from _ _ f (source_is s op x register is address ∙ unless_used (has_rs1 (row_of op)) (sourced s x) source u)) field
    said usage field rd old address slots.Imm = second_says (row_of op) (instr_in x) h (field_test usage) field
    said usage field rd old address slots.Rd = rd
    said usage field rd old address slots.Csr = eq-eqb (x slots.Csr) (address_of register) (sym address)
    said usage field rd old address slots.OldCsr = old
    said usage field rd old address _ = refl

pub granted_are_usages : GrantedAreUsages
granted_are_usages s op h x is w source = go (register_at (x slots.Csr)) refl
  where
    go : (o : Option Register) → register_at (x slots.Csr) ≡ o → HasUsage s op x
    go None e = absurd (let g : grants_in s op x (access_to s.csrs.mstatus s.privilege (writes_by op x) None) ≡ true = ap (grants_in s op x) (sym (access_is s op x None is e)) ∙ w.holds in cc)
    go (Some register) e = elim (cases_Bool (is_barred s op x register)) [
      | inl barred ↦ absurd (let g : grants_in s op x Denied ≡ true = ap (grants_in s op x) (sym (barred_access s op x register is e barred)) ∙ w.holds in cc)
      | inr free ↦ granted_uses s op h x is w.each source register e free (sym (grants_is s op x register is) ∙ (ap (grants_in s op x) (sym (free_access s op x register is e free)) ∙ w.holds))
    ]
