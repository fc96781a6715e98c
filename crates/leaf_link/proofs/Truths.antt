-- Atoms on a step: what cases decide, test and relate is what is true of the record.
use Rattle.std.proofs.Common.{◌≡◌, ℕ, zero, suc, if◌then◌else◌, ◌+◌, ◌%◌, ◌^◌, ◌<◌, ◌&&◌, ◌||◌, ◌==◌, not, Bool, true, false, eqb, List, [], ◌∷◌, Option, Some, None, refl, sym, ap, ◌∙◌, subst, inl, inr, arith, option_map}
use Rattle.std.proofs.lemmas.Bool.{eq-eqb, eqb-true, and_parts, and_from, cases_Bool}
use Rattle.std.specs.Prelude.{slice_index_or}
use Rattle.dom_set.specs.Elements.{is_in}
use Rattle.rv_isa.specs.declared.instruction.Instr.{Instr}
use Rattle.rv_isa.specs.declared.operation.Op.{Op}
use Rattle.rv_isa.specs.Arithmetic.{is_branch, is_taken}
use Rattle.rv_isa.specs.Fields.{has_csr, has_imm, has_rd, has_rs1, has_rs2, is_load, is_store, reads_rs1, reads_rs2, has_address}
use Rattle.rv_isa.specs.Reading.{decoded}
use Rattle.rv_isa.specs.Table.{row_of}
use Rattle.rv_script.specs.declared.place.Place.TheVariants.{Reg}
use Rattle.rv_script.specs.Folds.{Known}
use Rattle.rv_hart.specs.declared.record.Outcome.{Outcome}
use Rattle.rv_hart.specs.declared.record.Outcome.TheVariants.{Retired, Trap}
use Rattle.rv_hart.specs.Machine.{even}
use Rattle.tpl_ast.specs.declared.template.Atom.{Atom}
use Rattle.tpl_ast.specs.declared.template.Atom.TheVariants as atoms
use Rattle.tpl_ast.specs.declared.template.Var.{Var}
use Rattle.tpl_ast.specs.declared.template.Var.TheVariants as vars
use Rattle.tpl_admit.specs.Truth.{are_same, are_different, condition, condition_on, is_among, is_apart, is_shared, is_some_true, is_some_false}
use Rattle.tpl_admit.specs.Variables.{Moment, address_of, data_address, field, first_operand, first_register, is_jalr, is_refused, offset, outcome_in, read_register, second_operand, second_register, target_of, unless_refused, value_of}
use Rattle.fd_prob.specs.declared.slot.Slot.TheVariants as slots
use Rattle.leaf_link.specs.Turns.{Turn}
use Rattle.leaf_link.specs.Values.{Values, instr_in, address_if}
use Rattle.rv_isa.specs.Numbers.{op_number}
use Rattle.leaf_link.specs.Candidates.{all_met, is_met, is_named, registers_from}
use Rattle.tpl_ast.specs.Leaves.{same_var, var_number}
use Rattle.leaf_link.proofs.Unrefused.{address_never, condition_never, is_never_refused, jalr_never, never_reads}
use Rattle.leaf_link.specs.Cases.{Shape, all_judged, all_relate, all_tests, is_judged, is_relative, is_value_named, relates, tests, uses, uses_condition, uses_rs1, uses_rs2, value_at}

abbrev pub when : Bool → ℕ → Option ℕ
when b v = if b then Some v else None

-- REGISTERS
pub register_at : (known : Known) (n first r : ℕ) → r < n → slice_index_or (registers_from known first n) r None ≡ known (Reg (first + r))
register_at known zero first r h = absurd (omega (arith, h))
register_at known (suc n) first zero h = ap (λ (m : ℕ). known (Reg m)) (omega arith)
register_at known (suc n) first (suc r) h =
    let ih = register_at known n (suc first) r (omega (arith, h)) in
    let e : suc first + r ≡ first + suc r = omega arith in
    ih ∙ ap (λ (m : ℕ). known (Reg m)) e

pub refused_is : (o : Outcome) → is_refused o ≡ (outcome_in o == 2)
refused_is Retired = refl
refused_is (Trap cause value to) = refl

-- what a step's moment says of it
pub record Shows (t : Turn) (s : Shape) (pa : ℕ) (x : Values) (m : Moment) : Type 0 where
  pub op_is : (instr_in x).op ≡ s.op
  pub read : decoded m.done.word ≡ Some (instr_in x)
  pub pc : m.done.pc ≡ t.fixed.pc
  pub outcome : outcome_in m.done.outcome ≡ s.outcome
  pub rs1 : uses_rs1 s ≡ true → slice_index_or m.regs (x slots.Rs1) None ≡ Some (x slots.A)
  pub rs2 : uses_rs2 s ≡ true → slice_index_or m.regs (x slots.Rs2) None ≡ Some (x slots.B)
  pub unrefused : is_never_refused (row_of s.op) ≡ true → (s.outcome == 2) ≡ false
  pub ea : x slots.Ea ≡ address_if (has_address (row_of s.op)) (x slots.A) (x slots.Imm)
  pub reach : data_address m.done.accesses ≡ when s.reaches pa
  pub names : m.names ≡ t.names
  pub others : m.others ≡ t.others

read_shown : (reads two : Bool) (o : Option ℕ) (v : ℕ) → (reads && not two) ≡ true → o ≡ Some v → (if reads then o else None) ≡ Some v
read_shown true two o v h e = e
read_shown false two o v h e = absurd (cc)

first_read : (t : Turn) (s : Shape) (pa : ℕ) (x : Values) (m : Moment) → Shows t s pa x m → uses_rs1 s ≡ true → first_register m ≡ Some (x slots.A)
first_read t s pa x m h u =
    ap (λ (o : Option Instr). read_register reads_rs1 (λ i. i.rs1) m o) h.read
    ∙ ap (λ (op : Op). if reads_rs1 (row_of op) then slice_index_or m.regs (x slots.Rs1) None else None) h.op_is
    ∙ read_shown (reads_rs1 (row_of s.op)) (s.outcome == 2) (slice_index_or m.regs (x slots.Rs1) None) (x slots.A) u (h.rs1 u)

second_read : (t : Turn) (s : Shape) (pa : ℕ) (x : Values) (m : Moment) → Shows t s pa x m → uses_rs2 s ≡ true → second_register m ≡ Some (x slots.B)
second_read t s pa x m h u =
    ap (λ (o : Option Instr). read_register reads_rs2 (λ i. i.rs2) m o) h.read
    ∙ ap (λ (op : Op). if reads_rs2 (row_of op) then slice_index_or m.regs (x slots.Rs2) None else None) h.op_is
    ∙ read_shown (reads_rs2 (row_of s.op)) (s.outcome == 2) (slice_index_or m.regs (x slots.Rs2) None) (x slots.B) u (h.rs2 u)

-- an operation that rests on rs1 and is never refused uses it
never_uses : (t : Turn) (s : Shape) (pa : ℕ) (x : Values) (m : Moment) → Shows t s pa x m → is_never_refused (row_of s.op) ≡ true → uses_rs1 s ≡ true
never_uses t s pa x m h n = and_from (reads_rs1 (row_of s.op)) (not (s.outcome == 2)) (never_reads (row_of s.op) n) (ap not (h.unrefused n))

condition_uses : (t : Turn) (s : Shape) (pa : ℕ) (x : Values) (m : Moment) → Shows t s pa x m → is_branch s.op ≡ true → (uses_rs1 s ≡ true) × (uses_rs2 s ≡ true)
condition_uses t s pa x m h b =
    let n = condition_never (row_of s.op) b in
    (never_uses t s pa x m h n.0, and_from (reads_rs2 (row_of s.op)) (not (s.outcome == 2)) n.1 (ap not (h.unrefused n.0)))

operand_shown : (reads refused two : Bool) (o : Option ℕ) (v : ℕ) → refused ≡ two → ((reads && not two) ≡ true → o ≡ Some v) → (if refused then None else (if reads then o else None)) ≡ when (reads && not two) v
operand_shown true true true o v e h = refl
operand_shown true false false o v e h = h refl
operand_shown false true two o v e h = refl
operand_shown false false two o v e h = refl
operand_shown true true false o v e h = absurd (cc)
operand_shown true false true o v e h = absurd (cc)

first_shown : (t : Turn) (s : Shape) (pa : ℕ) (x : Values) (m : Moment) → Shows t s pa x m → first_operand m ≡ when (uses_rs1 s) (x slots.A)
first_shown t s pa x m h =
    ap (λ (o : Option Instr). unless_refused m.done.outcome (read_register reads_rs1 (λ i. i.rs1) m o)) h.read
    ∙ ap (λ (op : Op). if is_refused m.done.outcome then None else (if reads_rs1 (row_of op) then slice_index_or m.regs (x slots.Rs1) None else None)) h.op_is
    ∙ operand_shown (reads_rs1 (row_of s.op)) (is_refused m.done.outcome) (s.outcome == 2) (slice_index_or m.regs (x slots.Rs1) None) (x slots.A) (refused_is m.done.outcome ∙ ap (λ (n : ℕ). n == 2) h.outcome) h.rs1

second_shown : (t : Turn) (s : Shape) (pa : ℕ) (x : Values) (m : Moment) → Shows t s pa x m → second_operand m ≡ when (uses_rs2 s) (x slots.B)
second_shown t s pa x m h =
    ap (λ (o : Option Instr). unless_refused m.done.outcome (read_register reads_rs2 (λ i. i.rs2) m o)) h.read
    ∙ ap (λ (op : Op). if is_refused m.done.outcome then None else (if reads_rs2 (row_of op) then slice_index_or m.regs (x slots.Rs2) None else None)) h.op_is
    ∙ operand_shown (reads_rs2 (row_of s.op)) (is_refused m.done.outcome) (s.outcome == 2) (slice_index_or m.regs (x slots.Rs2) None) (x slots.B) (refused_is m.done.outcome ∙ ap (λ (n : ℕ). n == 2) h.outcome) h.rs2

ea_shown : (b u : Bool) (o : Option ℕ) (a imm ea : ℕ) → (b ≡ true → u ≡ true) → (u ≡ true → o ≡ Some a) → ea ≡ address_if b a imm → (if b then offset imm o else None) ≡ when (b && u) ea
ea_shown true true o a imm ea k l h = ap (λ (p : Option ℕ). offset imm p) (l refl) ∙ ap (λ (n : ℕ). Some n) (sym h)
ea_shown true false o a imm ea k l h = let z = k refl in absurd (cc)
ea_shown false u o a imm ea k l h = refl

target_shown : (r j u : Bool) (o : Option ℕ) (near a imm : ℕ) → (j ≡ true → u ≡ true) → (u ≡ true → o ≡ Some a) → (if r then Some near else (if j then option_map even (offset imm o) else None)) ≡ when (r || (j && u)) (if r then near else even ((a + imm) % 2 ^ 32))
target_shown true j u o near a imm k l = refl
target_shown false true true o near a imm k l = ap (λ (p : Option ℕ). option_map even (offset imm p)) (l refl)
target_shown false true false o near a imm k l = let z = k refl in absurd (cc)
target_shown false false u o near a imm k l = refl

-- the value of each variable
pub shown : (t : Turn) (s : Shape) (pa : ℕ) (x : Values) (m : Moment) → Shows t s pa x m → (v : Var) → value_of v m ≡ when (uses s v) (value_at s t.fixed.pc pa x v)
shown t s pa x m h vars.Op = ap (λ (o : Option Instr). Rattle.tpl_admit.specs.Variables.op_in o) h.read ∙ ap (λ (op : Op). Some (op_number op)) h.op_is
shown t s pa x m h vars.Rs1 = ap (λ (o : Option Instr). field has_rs1 (λ i. i.rs1) o) h.read ∙ ap (λ (op : Op). when (has_rs1 (row_of op)) (x slots.Rs1)) h.op_is
shown t s pa x m h vars.Rs2 = ap (λ (o : Option Instr). field has_rs2 (λ i. i.rs2) o) h.read ∙ ap (λ (op : Op). when (has_rs2 (row_of op)) (x slots.Rs2)) h.op_is
shown t s pa x m h vars.Rd = ap (λ (o : Option Instr). field has_rd (λ i. i.rd) o) h.read ∙ ap (λ (op : Op). when (has_rd (row_of op)) (x slots.Rd)) h.op_is
shown t s pa x m h vars.Imm = ap (λ (o : Option Instr). field has_imm (λ i. i.imm) o) h.read ∙ ap (λ (op : Op). when (has_imm (row_of op)) (x slots.Imm)) h.op_is
shown t s pa x m h vars.Csr = ap (λ (o : Option Instr). field has_csr (λ i. i.csr) o) h.read ∙ ap (λ (op : Op). when (has_csr (row_of op)) (x slots.Csr)) h.op_is
shown t s pa x m h vars.Ea =
    ap (λ (o : Option Instr). address_of m o) h.read
    ∙ ap (λ (op : Op). if is_load (row_of op) || is_store (row_of op) then offset (x slots.Imm) (first_register m) else None) h.op_is
    ∙ ea_shown (has_address (row_of s.op)) (uses_rs1 s) (first_register m) (x slots.A) (x slots.Imm) (x slots.Ea) (λ b. never_uses t s pa x m h (address_never (row_of s.op) b)) (first_read t s pa x m h) h.ea
shown t s pa x m h vars.A = first_shown t s pa x m h
shown t s pa x m h vars.B = second_shown t s pa x m h
shown t s pa x m h vars.Pa = h.reach
shown t s pa x m h vars.Target =
    ap (λ (o : Option Instr). target_of m o) h.read
    ∙ ap (λ (op : Op). if is_relative op then Some ((m.done.pc + x slots.Imm) % 2 ^ 32) else (if is_jalr op then option_map even (offset (x slots.Imm) (first_register m)) else None)) h.op_is
    ∙ ap (λ (n : ℕ). if is_relative s.op then Some ((n + x slots.Imm) % 2 ^ 32) else (if is_jalr s.op then option_map even (offset (x slots.Imm) (first_register m)) else None)) h.pc
    ∙ target_shown (is_relative s.op) (is_jalr s.op) (uses_rs1 s) (first_register m) ((t.fixed.pc + x slots.Imm) % 2 ^ 32) (x slots.A) (x slots.Imm) (λ j. never_uses t s pa x m h (jalr_never s.op j)) (first_read t s pa x m h)
shown t s pa x m h vars.Outcome = ap (λ (n : ℕ). Some n) h.outcome

-- what no branch has
condition_none : (i : Instr) (o p : Option ℕ) → is_branch i.op ≡ false → condition (Some i) o p ≡ None
condition_none i None p n = refl
condition_none i (Some a) None n = refl
condition_none i (Some a) (Some b) n = ap (λ (c : Bool). if c then Some (is_taken i.op a b) else None) n

condition_when : (i : Instr) (r u w : Bool) (o p : Option ℕ) (a b : ℕ) → is_branch i.op ≡ r → (r ≡ true → (u ≡ true) × (w ≡ true)) → (u ≡ true → o ≡ Some a) → (w ≡ true → p ≡ Some b) → condition (Some i) o p ≡ (if r && (u && w) then Some (is_taken i.op a b) else None)
condition_when i false u w o p a b e both one two = condition_none i o p e
condition_when i true true true o p a b e both one two =
    ap (λ (z : Option ℕ). condition (Some i) z p) (one refl) ∙ ap (λ (z : Option ℕ). condition (Some i) (Some a) z) (two refl)
    ∙ ap (λ (c : Bool). if c then Some (is_taken i.op a b) else None) e
condition_when i true true false o p a b e both one two = let z = (both refl).1 in absurd (cc)
condition_when i true false w o p a b e both one two = let z = (both refl).0 in absurd (cc)

condition_shown : (t : Turn) (s : Shape) (pa : ℕ) (x : Values) (m : Moment) → Shows t s pa x m → condition_on m ≡ (if uses_condition s then Some (is_taken s.op (x slots.A) (x slots.B)) else None)
condition_shown t s pa x m h =
    ap (λ (o : Option Instr). condition o (first_register m) (second_register m)) h.read
    ∙ condition_when (instr_in x) (is_branch s.op) (uses_rs1 s) (uses_rs2 s) (first_register m) (second_register m) (x slots.A) (x slots.B)
    (ap (λ (op : Op). is_branch op) h.op_is) (condition_uses t s pa x m h) (first_read t s pa x m h) (second_read t s pa x m h)
    ∙ ap (λ (op : Op). if uses_condition s then Some (is_taken op (x slots.A) (x slots.B)) else None) h.op_is

-- VARIABLES BY THEIR NUMBERS
var_at : ℕ → Var
var_at n = if eqb n 0 then vars.Op else (if eqb n 1 then vars.Rs1 else (if eqb n 2 then vars.Rs2 else (if eqb n 3 then vars.Rd else (if eqb n 4 then vars.Imm else (if eqb n 5 then vars.Csr else (if eqb n 6 then vars.Ea else (if eqb n 7 then vars.A else (if eqb n 8 then vars.B else (if eqb n 9 then vars.Pa else (if eqb n 10 then vars.Target else vars.Outcome))))))))))

var_back : (v : Var) → var_at (var_number v) ≡ v
unfolding var_at
var_back vars.Op = refl
var_back _ = refl

pub same_var_is : (v u : Var) → same_var v u ≡ true → v ≡ u
same_var_is v u h = sym (var_back v) ∙ ap var_at (eqb-true _ _ h) ∙ var_back u

pub same_var_own : (v : Var) → same_var v v ≡ true
same_var_own v = eq-eqb (var_number v) (var_number v) refl

-- ONE TEST
tested : (v : Var) (test : ℕ → Bool) (value : Var → ℕ) → (if same_var v v then test (value v) else true) ≡ true → test (value v) ≡ true
tested v test value h = subst (λ (b : Bool). (if b then test (value v) else true) ≡ true) (same_var_own v) h

testing : (v u : Var) (test : ℕ → Bool) (value : Var → ℕ) → test (value v) ≡ true → (if same_var v u then test (value u) else true) ≡ true
testing v u test value h = elim (cases_Bool (same_var v u)) [
  | inl y ↦ ap (λ (b : Bool). if b then test (value u) else true) y ∙ ap (λ (w : Var). test (value w)) (sym (same_var_is v u y)) ∙ h
  | inr n ↦ ap (λ (b : Bool). if b then test (value u) else true) n
]

among_true : (set : List ℕ) (b : Bool) (v : ℕ) → is_among set (when b v) ≡ true → (b ≡ true) × (is_in set v ≡ true)
among_true set true v h = (refl, h)
among_true set false v h = absurd (cc)

apart_true : (set : List ℕ) (b : Bool) (v : ℕ) → is_apart set (when b v) ≡ true → (b ≡ true) × (not (is_in set v) ≡ true)
apart_true set true v h = (refl, h)
apart_true set false v h = absurd (cc)

named_true : (o : Option ℕ) (set : List ℕ) (b : Bool) (v : ℕ) → is_named o set (when b v) ≡ true → (b ≡ true) × (is_value_named o set v ≡ true)
named_true (Some n) set true v h = (refl, h)
named_true (Some n) set false v h = absurd (cc)
named_true None set true v h = (refl, h)
named_true None set false v h = absurd (cc)

named_from : (o : Option ℕ) (set : List ℕ) (v : ℕ) → is_value_named o set v ≡ true → is_named o set (Some v) ≡ true
named_from (Some n) set v h = h
named_from None set v h = h

same_true : (b c : Bool) (v w : ℕ) → are_same (when b v) (when c w) ≡ true → ((b && c) ≡ true) × ((v == w) ≡ true)
same_true true true v w h = (refl, h)
same_true true false v w h = absurd (cc)
same_true false c v w h = absurd (cc)

different_true : (b c : Bool) (v w : ℕ) → are_different (when b v) (when c w) ≡ true → ((b && c) ≡ true) × (not (v == w) ≡ true)
different_true true true v w h = (refl, h)
different_true true false v w h = absurd (cc)
different_true false c v w h = absurd (cc)

taken_true : (b c : Bool) → is_some_true (if b then Some c else None) ≡ true → (b ≡ true) × (c ≡ true)
taken_true true c h = (refl, h)
taken_true false c h = absurd (cc)

untaken_true : (b c : Bool) → is_some_false (if b then Some c else None) ≡ true → (b ≡ true) × (not c ≡ true)
untaken_true true c h = (refl, h)
untaken_true false c h = absurd (cc)

shared_true : (others : _) (b : Bool) (v : ℕ) → is_shared others (when b v) ≡ true → (b ≡ true) × (is_shared others (Some v) ≡ true)
shared_true others true v h = (refl, h)
shared_true others false v h = absurd (cc)

-- ONE ATOM
pub record Judges (t : Turn) (s : Shape) (value : Var → ℕ) (atom : Atom) : Type 0 where
  pub judged : is_judged s atom ≡ true
  pub tested : (u : Var) → uses s u ≡ true → tests t atom u (value u) ≡ true
  pub relates : relates s.op value atom ≡ true

pub met_by : (t : Turn) (s : Shape) (pa : ℕ) (x : Values) (m : Moment) → Shows t s pa x m → (atom : Atom) → Judges t s (value_at s t.fixed.pc pa x) atom → is_met t m atom ≡ true
met_by t s pa x m h (atoms.In w set) j =
    ap (λ (o : Option ℕ). is_among set o) (shown t s pa x m h w) ∙ ap (λ (b : Bool). is_among set (when b (value_at s t.fixed.pc pa x w))) j.judged
    ∙ tested w (λ v. is_in set v) (value_at s t.fixed.pc pa x) (j.tested w j.judged)
met_by t s pa x m h (atoms.NotIn w set) j =
    ap (λ (o : Option ℕ). is_apart set o) (shown t s pa x m h w) ∙ ap (λ (b : Bool). is_apart set (when b (value_at s t.fixed.pc pa x w))) j.judged
    ∙ tested w (λ v. not (is_in set v)) (value_at s t.fixed.pc pa x) (j.tested w j.judged)
met_by t s pa x m h (atoms.Is w name) j =
    ap (λ (o : Option ℕ). is_named (t.names name) (t.sets name) o) (shown t s pa x m h w) ∙ ap (λ (b : Bool). is_named (t.names name) (t.sets name) (when b (value_at s t.fixed.pc pa x w))) j.judged
    ∙ named_from (t.names name) (t.sets name) (value_at s t.fixed.pc pa x w) (tested w (λ v. is_value_named (t.names name) (t.sets name) v) (value_at s t.fixed.pc pa x) (j.tested w j.judged))
met_by t s pa x m h (atoms.Same w u) j =
    let b = and_parts (uses s w) (uses s u) j.judged in
    ap (λ (o : Option ℕ). are_same o (value_of u m)) (shown t s pa x m h w ∙ ap (λ (b : Bool). when b (value_at s t.fixed.pc pa x w)) b.0)
    ∙ ap (λ (o : Option ℕ). are_same (Some (value_at s t.fixed.pc pa x w)) o) (shown t s pa x m h u ∙ ap (λ (b : Bool). when b (value_at s t.fixed.pc pa x u)) b.1) ∙ j.relates
met_by t s pa x m h (atoms.Differ w u) j =
    let b = and_parts (uses s w) (uses s u) j.judged in
    ap (λ (o : Option ℕ). are_different o (value_of u m)) (shown t s pa x m h w ∙ ap (λ (b : Bool). when b (value_at s t.fixed.pc pa x w)) b.0)
    ∙ ap (λ (o : Option ℕ). are_different (Some (value_at s t.fixed.pc pa x w)) o) (shown t s pa x m h u ∙ ap (λ (b : Bool). when b (value_at s t.fixed.pc pa x u)) b.1) ∙ j.relates
met_by t s pa x m h atoms.Taken j = ap (λ (o : Option Bool). is_some_true o) (condition_shown t s pa x m h) ∙ ap (λ (b : Bool). is_some_true (if b then Some (is_taken s.op (x slots.A) (x slots.B)) else None)) j.judged ∙ j.relates
met_by t s pa x m h atoms.NotTaken j = ap (λ (o : Option Bool). is_some_false o) (condition_shown t s pa x m h) ∙ ap (λ (b : Bool). is_some_false (if b then Some (is_taken s.op (x slots.A) (x slots.B)) else None)) j.judged ∙ j.relates
met_by t s pa x m h atoms.Shared j =
    ap (λ (o : _). is_shared o (data_address m.done.accesses)) h.others ∙ ap (λ (o : Option ℕ). is_shared t.others o) (h.reach ∙ ap (λ (b : Bool). when b pa) j.judged)
    ∙ j.tested vars.Pa j.judged

pub by_met : (t : Turn) (s : Shape) (pa : ℕ) (x : Values) (m : Moment) → Shows t s pa x m → (atom : Atom) → is_met t m atom ≡ true → Judges t s (value_at s t.fixed.pc pa x) atom
by_met t s pa x m h (atoms.In w set) j =
    let r = among_true set (uses s w) (value_at s t.fixed.pc pa x w) (ap (λ (o : Option ℕ). is_among set o) (sym (shown t s pa x m h w)) ∙ j) in
    record { judged = r.0; tested = λ u used. testing w u (λ v. is_in set v) (value_at s t.fixed.pc pa x) r.1; relates = refl }
by_met t s pa x m h (atoms.NotIn w set) j =
    let r = apart_true set (uses s w) (value_at s t.fixed.pc pa x w) (ap (λ (o : Option ℕ). is_apart set o) (sym (shown t s pa x m h w)) ∙ j) in
    record { judged = r.0; tested = λ u used. testing w u (λ v. not (is_in set v)) (value_at s t.fixed.pc pa x) r.1; relates = refl }
by_met t s pa x m h (atoms.Is w name) j =
    let r = named_true (t.names name) (t.sets name) (uses s w) (value_at s t.fixed.pc pa x w) (ap (λ (o : Option ℕ). is_named (t.names name) (t.sets name) o) (sym (shown t s pa x m h w)) ∙ j) in
    record { judged = r.0; tested = λ u used. testing w u (λ v. is_value_named (t.names name) (t.sets name) v) (value_at s t.fixed.pc pa x) r.1; relates = refl }
by_met t s pa x m h (atoms.Same w u) j =
    let r = same_true (uses s w) (uses s u) (value_at s t.fixed.pc pa x w) (value_at s t.fixed.pc pa x u)
    (ap (λ (o : Option ℕ). are_same (when (uses s w) (value_at s t.fixed.pc pa x w)) o) (sym (shown t s pa x m h u)) ∙ ap (λ (o : Option ℕ). are_same o (value_of u m)) (sym (shown t s pa x m h w)) ∙ j) in
    record { judged = r.0; tested = λ u used. refl; relates = r.1 }
by_met t s pa x m h (atoms.Differ w u) j =
    let r = different_true (uses s w) (uses s u) (value_at s t.fixed.pc pa x w) (value_at s t.fixed.pc pa x u)
    (ap (λ (o : Option ℕ). are_different (when (uses s w) (value_at s t.fixed.pc pa x w)) o) (sym (shown t s pa x m h u)) ∙ ap (λ (o : Option ℕ). are_different o (value_of u m)) (sym (shown t s pa x m h w)) ∙ j) in
    record { judged = r.0; tested = λ u used. refl; relates = r.1 }
by_met t s pa x m h atoms.Taken j =
    let r = taken_true (uses_condition s) (is_taken s.op (x slots.A) (x slots.B)) (ap (λ (o : Option Bool). is_some_true o) (sym (condition_shown t s pa x m h)) ∙ j) in
    record { judged = r.0; tested = λ u used. refl; relates = r.1 }
by_met t s pa x m h atoms.NotTaken j =
    let r = untaken_true (uses_condition s) (is_taken s.op (x slots.A) (x slots.B)) (ap (λ (o : Option Bool). is_some_false o) (sym (condition_shown t s pa x m h)) ∙ j) in
    record { judged = r.0; tested = λ u used. refl; relates = r.1 }
by_met t s pa x m h atoms.Shared j =
    let r = shared_true t.others s.reaches pa (ap (λ (o : Option ℕ). is_shared t.others o) (sym h.reach) ∙ ap (λ (o : _). is_shared o (data_address m.done.accesses)) (sym h.others) ∙ j) in
    record { judged = r.0; tested = λ u used. testing vars.Pa u (λ v. is_shared t.others (Some v)) (value_at s t.fixed.pc pa x) r.1; relates = refl }

-- ALL ATOMS
pub record JudgesAll (t : Turn) (s : Shape) (value : Var → ℕ) (leaf : List Atom) : Type 0 where
  pub judged : all_judged s leaf ≡ true
  pub tested : (u : Var) → uses s u ≡ true → all_tests t leaf u (value u) ≡ true
  pub relates : all_relate s.op value leaf ≡ true

pub all_met_by : (t : Turn) (s : Shape) (pa : ℕ) (x : Values) (m : Moment) → Shows t s pa x m → (leaf : List Atom) → JudgesAll t s (value_at s t.fixed.pc pa x) leaf → all_met t m leaf ≡ true
all_met_by t s pa x m h [] j = refl
all_met_by t s pa x m h (atom ∷ leaf) j =
    let a = and_parts (is_judged s atom) (all_judged s leaf) j.judged in
    let r = and_parts (relates s.op (value_at s t.fixed.pc pa x) atom) (all_relate s.op (value_at s t.fixed.pc pa x) leaf) j.relates in
    let both = λ (u : Var) (used : uses s u ≡ true). and_parts (tests t atom u (value_at s t.fixed.pc pa x u)) (all_tests t leaf u (value_at s t.fixed.pc pa x u)) (j.tested u used) in
    and_from _ _ (met_by t s pa x m h atom (record { judged = a.0; tested = λ u used. (both u used).0; relates = r.0 }))
    (all_met_by t s pa x m h leaf (record { judged = a.1; tested = λ u used. (both u used).1; relates = r.1 }))

pub by_all_met : (t : Turn) (s : Shape) (pa : ℕ) (x : Values) (m : Moment) → Shows t s pa x m → (leaf : List Atom) → all_met t m leaf ≡ true → JudgesAll t s (value_at s t.fixed.pc pa x) leaf
by_all_met t s pa x m h [] j = record { judged = refl; tested = λ u used. refl; relates = refl }
by_all_met t s pa x m h (atom ∷ leaf) j =
    let a = and_parts (is_met t m atom) (all_met t m leaf) j in
    let one = by_met t s pa x m h atom a.0 in
    let all = by_all_met t s pa x m h leaf a.1 in
    record { judged = and_from _ _ one.judged all.judged; tested = λ u used. and_from _ _ (one.tested u used) (all.tested u used); relates = and_from _ _ one.relates all.relates }
