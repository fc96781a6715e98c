-- The values of variables are words, where the record can stand in a file and the registers are words.
use Rattle.std.proofs.Common.{◌≡◌, ℕ, ◌+◌, ◌%◌, ◌^◌, ◌<◌, Bool, true, false, if◌then◌else◌, List, [], ◌∷◌, Option, Some, None, refl, subst, arith}
use Rattle.std.specs.Prelude.{option_map, slice_index_or, ◌||◌}
use Rattle.std.specs.List.{AllByRecursion}
use Rattle.rv_isa.specs.declared.instruction.Instr.{Instr}
use Rattle.rv_isa.specs.declared.table.Row.{Row}
use Rattle.rv_isa.specs.Arithmetic.{is_branch}
use Rattle.rv_isa.specs.Encoding.{IsInRange}
use Rattle.rv_isa.specs.Fields.{has_csr, has_imm, has_rd, has_rs1, has_rs2, is_jump, is_load, is_store, reads_rs1, reads_rs2}
use Rattle.rv_isa.specs.Numbers.{op_number}
use Rattle.rv_isa.specs.Reading.{decoded}
use Rattle.rv_isa.specs.Table.{row_of}
use Rattle.rv_isa.proofs.Codec.{encoded_read, fitting_in_range}
use Rattle.rv_isa.proofs.Numbers.{small}
use Rattle.rv_csr.proofs.LegalValues.{cause_narrow}
use Rattle.rv_script.specs.declared.access.Access.{Access}
use Rattle.rv_hart.specs.declared.record.Outcome.{Outcome}
use Rattle.rv_hart.specs.declared.record.Outcome.TheVariants.{Retired, Trap}
use Rattle.rv_hart.specs.Clauses.{IsFitOutcome, IsFitRecord}
use Rattle.rv_hart.specs.Effects.{IsAccess}
use Rattle.rv_hart.specs.Machine.{even}
use Rattle.tpl_ast.specs.declared.template.Var.{Var}
use Rattle.tpl_ast.specs.declared.template.Var.TheVariants as vars
use Rattle.tpl_admit.specs.Variables.{Moment, address_of, data_address, field, first_register, instruction_in, is_data, is_jalr, is_refused, offset, op_in, outcome_in, read_register, second_register, target_of, value_of}

-- a value that is there is a word
abbrev pub IsSmall : Option ℕ → Type 0
IsSmall o = (x : ℕ) → o ≡ Some x → x < 2 ^ 32

none_small : IsSmall None
none_small x h = absurd (cc h)

outcome_small : (o : Outcome) → IsFitOutcome o → outcome_in o < 2 ^ 32
outcome_small Retired fit = omega arith
outcome_small (Trap cause value to) fit = let h = cause_narrow cause fit.0 in omega (arith, h)

even_small : (addr : ℕ) → addr < 2 ^ 32 → even addr < 2 ^ 32
even_small addr h = omega (arith, h)

if_small : (b : Bool) (o p : Option ℕ) → IsSmall o → IsSmall p → IsSmall (if b then o else p)
if_small true o p h k = h
if_small false o p h k = k

some_small : (v : ℕ) → v < 2 ^ 32 → IsSmall (Some v)
some_small v h x e = let same : v ≡ x = cc e in subst (λ (n : ℕ). n < 2 ^ 32) same h

data_small : (xs : List Access) → AllByRecursion IsAccess xs → IsSmall (data_address xs)
data_small [] all = none_small
data_small (a ∷ xs) all = if_small (is_data a.role) (Some a.addr) (data_address xs) (some_small a.addr all.0.addr) (data_small xs all.1)

field_small : (has : Row → Bool) (get : Instr → ℕ) (o : Option Instr) → ((i : Instr) → o ≡ Some i → get i < 2 ^ 32) → IsSmall (field has get o)
field_small has get None h = none_small
field_small has get (Some i) h = if_small (has (row_of i.op)) (Some (get i)) None (some_small (get i) (h i refl)) none_small

in_range : (w : ℕ) (i : Instr) → decoded w ≡ Some i → IsInRange i
in_range w i h = fitting_in_range i (encoded_read w i h).fits

module _ (m : Moment) (fit : IsFitRecord m.done) (words : (i v : ℕ) → slice_index_or m.regs i None ≡ Some v → v < 2 ^ 32) where
  register_small : (reads : Row → Bool) (get : Instr → ℕ) (o : Option Instr) → IsSmall (read_register reads get m o)
  register_small reads get None = none_small
  register_small reads get (Some i) = if_small (reads (row_of i.op)) (slice_index_or m.regs (get i) None) None (words (get i)) none_small

  offset_small : (imm : ℕ) (o : Option ℕ) → IsSmall (offset imm o)
  offset_small imm None = none_small
  offset_small imm (Some a) = some_small ((a + imm) % 2 ^ 32) (omega arith)

  address_small : (o : Option Instr) → IsSmall (address_of m o)
  address_small None = none_small
  address_small (Some i) = if_small (is_load (row_of i.op) || is_store (row_of i.op)) (offset i.imm (first_register m)) None (offset_small i.imm (first_register m)) none_small

  even_offset : (o : Option ℕ) → IsSmall o → IsSmall (option_map even o)
  even_offset None h = none_small
  even_offset (Some a) h = some_small (even a) (even_small a (h a refl))

  target_small : (o : Option Instr) → IsSmall (target_of m o)
  target_small None = none_small
  target_small (Some i) =
      if_small (is_branch i.op || is_jump (row_of i.op)) (Some ((m.done.pc + i.imm) % 2 ^ 32)) (if is_jalr i.op then option_map even (offset i.imm (first_register m)) else None)
      (some_small ((m.done.pc + i.imm) % 2 ^ 32) (omega arith))
      (if_small (is_jalr i.op) (option_map even (offset i.imm (first_register m))) None (even_offset (offset i.imm (first_register m)) (offset_small i.imm (first_register m))) none_small)

  op_small : (o : Option Instr) → IsSmall (op_in o)
  op_small None = none_small
  op_small (Some i) = some_small (op_number i.op) (let h = small i.op in omega (arith, h))

  pub value_small : (v : Var) → IsSmall (value_of v m)
  value_small vars.Op = op_small (instruction_in m.done)
  value_small vars.Rs1 = field_small has_rs1 (λ i. i.rs1) (instruction_in m.done) (λ i h. let r = (in_range m.done.word i h).rs1 in omega (arith, r))
  value_small vars.Rs2 = field_small has_rs2 (λ i. i.rs2) (instruction_in m.done) (λ i h. let r = (in_range m.done.word i h).rs2 in omega (arith, r))
  value_small vars.Rd = field_small has_rd (λ i. i.rd) (instruction_in m.done) (λ i h. let r = (in_range m.done.word i h).rd in omega (arith, r))
  value_small vars.Imm = field_small has_imm (λ i. i.imm) (instruction_in m.done) (λ i h. (in_range m.done.word i h).imm)
  value_small vars.Csr = field_small has_csr (λ i. i.csr) (instruction_in m.done) (λ i h. let r = (in_range m.done.word i h).csr in omega (arith, r))
  value_small vars.Ea = address_small (instruction_in m.done)
  value_small vars.A = if_small (is_refused m.done.outcome) None (first_register m) none_small (register_small reads_rs1 (λ i. i.rs1) (instruction_in m.done))
  value_small vars.B = if_small (is_refused m.done.outcome) None (second_register m) none_small (register_small reads_rs2 (λ i. i.rs2) (instruction_in m.done))
  value_small vars.Pa = data_small m.done.accesses fit.accesses
  value_small vars.Target = target_small (instruction_in m.done)
  value_small vars.Outcome = some_small (outcome_in m.done.outcome) (outcome_small m.done.outcome fit.outcome)
