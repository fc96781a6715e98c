-- The values of variables on a record.
use Rattle.std.specs.Prelude.{ℕ, ◌+◌, ◌%◌, ◌^◌, Bool, true, false, ◌||◌, ◌==◌, List, [], ◌∷◌, Option, Some, None, option_map, slice_index_or, if◌then◌else◌}
use Rattle.rv_isa.specs.declared.instruction.Instr.{Instr}
use Rattle.rv_isa.specs.declared.operation.Op.{Op}
use Rattle.rv_isa.specs.declared.operation.Op.TheVariants.{Jalr}
use Rattle.rv_isa.specs.declared.table.Row.{Row}
use Rattle.rv_isa.specs.Fields.{has_csr, has_imm, has_rd, has_rs1, has_rs2, is_jump, is_load, is_store, reads_rs1, reads_rs2}
use Rattle.rv_isa.specs.Arithmetic.{is_branch}
use Rattle.rv_isa.specs.Reading.{decoded}
use Rattle.rv_isa.specs.Table.{row_of}
use Rattle.rv_script.specs.declared.access.Access.{Access}
use Rattle.rv_script.specs.declared.access.Role.{Role}
use Rattle.rv_script.specs.declared.access.Role.TheVariants.{Fetch, Walk, Load, Store}
use Rattle.rv_hart.specs.declared.record.Outcome.{Outcome}
use Rattle.rv_hart.specs.declared.record.Outcome.TheVariants.{Retired, Trap}
use Rattle.rv_hart.specs.declared.record.Record.{Record}
use Rattle.rv_hart.specs.Machine.{even}
use Rattle.tpl_ast.specs.declared.template.Var.{Var}
use Rattle.tpl_ast.specs.declared.template.Var.TheVariants as vars
use Rattle.rv_isa.specs.Numbers.{op_number}

-- what an atom is judged on: a record, the values of its hart's registers before it, the values of names, and the records of harts of lower numbers
pub record Moment : Type 0 where
  pub done : Record
  pub regs : List (Option ℕ)
  pub names : ℕ → Option ℕ
  pub others : List (List Record)

-- the instruction of the fetched word
abbrev pub instruction_in : Record → Option Instr
instruction_in r = decoded r.word

-- a field, where the instruction's format has it
abbrev pub field : (Row → Bool) → (Instr → ℕ) → Option Instr → Option ℕ
field has get None = None
field has get (Some i) = if has (row_of i.op) then Some (get i) else None

-- an instruction that is illegal needs no register
abbrev pub is_refused : Outcome → Bool
is_refused Retired = false
is_refused (Trap cause value to) = cause == 2

-- the value of a register before the step, where the instruction reads it
abbrev pub read_register : (Row → Bool) → (Instr → ℕ) → Moment → Option Instr → Option ℕ
read_register reads get m None = None
read_register reads get m (Some i) = if reads (row_of i.op) then slice_index_or m.regs (get i) None else None

-- what rs1 and rs2 hold before the step
abbrev pub first_register : Moment → Option ℕ
first_register m = read_register reads_rs1 (λ i. i.rs1) m (instruction_in m.done)

abbrev pub second_register : Moment → Option ℕ
second_register m = read_register reads_rs2 (λ i. i.rs2) m (instruction_in m.done)

-- an operand, where the instruction isn't refused
abbrev pub unless_refused : Outcome → Option ℕ → Option ℕ
unless_refused o value = if is_refused o then None else value

-- the variables a and b
abbrev pub first_operand : Moment → Option ℕ
first_operand m = unless_refused m.done.outcome (first_register m)

abbrev pub second_operand : Moment → Option ℕ
second_operand m = unless_refused m.done.outcome (second_register m)

abbrev pub offset : ℕ → Option ℕ → Option ℕ
offset imm None = None
offset imm (Some a) = Some ((a + imm) % 2 ^ 32)

-- the virtual address of a load or store
abbrev pub address_of : Moment → Option Instr → Option ℕ
address_of m None = None
address_of m (Some i) = if is_load (row_of i.op) || is_store (row_of i.op) then offset i.imm (first_register m) else None

abbrev pub is_data : Role → Bool
is_data Fetch = false
is_data Walk = false
is_data Load = true
is_data Store = true

-- the physical address of the data access
abbrev pub data_address : List Access → Option ℕ
data_address [] = None
data_address (a ∷ rest) = if is_data a.role then Some a.addr else data_address rest

abbrev pub is_jalr : Op → Bool
is_jalr Jalr = true
is_jalr _ = false

-- where a branch goes if it is taken, and a jump
abbrev pub target_of : Moment → Option Instr → Option ℕ
target_of m None = None
target_of m (Some i) =
    if is_branch i.op || is_jump (row_of i.op) then Some ((m.done.pc + i.imm) % 2 ^ 32)
    else (if is_jalr i.op then option_map even (offset i.imm (first_register m)) else None)

-- retire is 255
abbrev pub outcome_in : Outcome → ℕ
outcome_in Retired = 255
outcome_in (Trap cause value to) = cause

-- an operation is the number of its row
abbrev pub op_in : Option Instr → Option ℕ
op_in None = None
op_in (Some i) = Some (op_number i.op)

-- the value of a variable, where it has one
abbrev pub value_of : Var → Moment → Option ℕ
value_of vars.Op m = op_in (instruction_in m.done)
value_of vars.Rs1 m = field has_rs1 (λ i. i.rs1) (instruction_in m.done)
value_of vars.Rs2 m = field has_rs2 (λ i. i.rs2) (instruction_in m.done)
value_of vars.Rd m = field has_rd (λ i. i.rd) (instruction_in m.done)
value_of vars.Imm m = field has_imm (λ i. i.imm) (instruction_in m.done)
value_of vars.Csr m = field has_csr (λ i. i.csr) (instruction_in m.done)
value_of vars.Ea m = address_of m (instruction_in m.done)
value_of vars.A m = first_operand m
value_of vars.B m = second_operand m
value_of vars.Pa m = data_address m.done.accesses
value_of vars.Target m = target_of m (instruction_in m.done)
value_of vars.Outcome m = Some (outcome_in m.done.outcome)
