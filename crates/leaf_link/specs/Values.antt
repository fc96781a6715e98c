-- The values of a step's fourteen variables, and the answers that they are to its questions.
use Rattle.std.specs.Prelude.{ℕ, ◌+◌, ◌%◌, ◌^◌, Bool, true, false, if◌then◌else◌, List, Option, Some, None}
use Rattle.std.specs.Option.{unwrap_or}
use Rattle.rv_isa.specs.declared.instruction.Instr.{Instr}
use Rattle.rv_isa.specs.declared.table.Row.{Row}
use Rattle.rv_isa.specs.declared.table.Row.TheVariants.{Csr as CsrRow, CsrImmediate, R, I, Shift, S, B, U, J, FenceSets, AddressFence, Fixed as Whole, DefinedIllegal}
use Rattle.rv_isa.specs.Encoding.{word_of}
use Rattle.rv_isa.specs.Fields.{has_address}
use Rattle.rv_isa.specs.Table.{row_of}
use Rattle.rv_csr.specs.declared.access.CsrAccess.{CsrAccess}
use Rattle.rv_csr.specs.declared.access.CsrAccess.TheVariants.{Granted, Denied, Outside as NotModelled}
use Rattle.rv_csr.specs.declared.table.Register.TheVariants.{Lazy}
use Rattle.rv_csr.specs.Access.{access_of}
use Rattle.rv_csr.specs.State.{value_of}
use Rattle.rv_script.specs.Script.{Label, Label.FetchRoot, Label.FetchSecond, Label.Fetched, Label.FromRs1, Label.FromRs2, Label.FromCsr, Label.DataRoot, Label.DataSecond, Label.DataWord, Label.FromVector}
use Rattle.rv_script.specs.Folds.{Known, Entry}
use Rattle.rv_hart.specs.Fixed.{Fixed, fixed_csrs}
use Rattle.rv_hart.specs.Privileged.{reads_csr, writes_csr}
use Rattle.rv_hart.specs.Machine.{script}
use Rattle.rv_isa.specs.Numbers.{op_number, op_numbered}
use Rattle.fd_prob.specs.declared.slot.Slot.{Slot}
use Rattle.fd_prob.specs.declared.slot.Slot.TheVariants as slots
use Rattle.rv_script.specs.Logs.{answer_told, log_of, labelled, started, by_answers, new_value, value_in}

-- a value for each variable
abbrev pub Values : Type 0
Values = Slot → ℕ

-- the instruction of the fields
abbrev pub instr_in : Values → Instr
instr_in x = record { op = op_numbered (x slots.Op); rd = x slots.Rd; rs1 = x slots.Rs1; rs2 = x slots.Rs2; imm = x slots.Imm; csr = x slots.Csr }

-- THE VALUES OF A STEP
abbrev pub address_if : Bool → ℕ → ℕ → ℕ
address_if true a imm = (a + imm) % 2 ^ 32
address_if false a imm = 0

-- the old value of a CSR that is no lazy place, where the access is granted
abbrev pub fixed_value : Fixed → CsrAccess → ℕ
fixed_value f (Granted (Lazy register)) = 0
fixed_value f (Granted register) = unwrap_or (value_of (fixed_csrs f) register) 0
fixed_value f Denied = 0
fixed_value f NotModelled = 0

abbrev pub field_of_operand : Row → Instr → ℕ
field_of_operand (CsrRow opcode funct3) i = i.rs1
field_of_operand (R opcode funct3 funct7) i = i.imm
field_of_operand (I opcode funct3) i = i.imm
field_of_operand (Shift opcode funct3 funct7) i = i.imm
field_of_operand (S opcode funct3) i = i.imm
field_of_operand (B opcode funct3) i = i.imm
field_of_operand (U opcode) i = i.imm
field_of_operand (J opcode) i = i.imm
field_of_operand (CsrImmediate opcode funct3) i = i.imm
field_of_operand (FenceSets opcode funct3) i = i.imm
field_of_operand (AddressFence opcode funct3 funct7) i = i.imm
field_of_operand (Whole word) i = i.imm
field_of_operand DefinedIllegal i = i.imm

abbrev pub has_csr_operand : Row → Bool
has_csr_operand (CsrRow opcode funct3) = true
has_csr_operand (CsrImmediate opcode funct3) = true
has_csr_operand (R opcode funct3 funct7) = false
has_csr_operand (I opcode funct3) = false
has_csr_operand (Shift opcode funct3 funct7) = false
has_csr_operand (S opcode funct3) = false
has_csr_operand (B opcode funct3) = false
has_csr_operand (U opcode) = false
has_csr_operand (J opcode) = false
has_csr_operand (FenceSets opcode funct3) = false
has_csr_operand (AddressFence opcode funct3 funct7) = false
has_csr_operand (Whole word) = false
has_csr_operand DefinedIllegal = false

-- what a CSR instruction reads of a CSR for which it does not ask, and else 0
abbrev pub unasked_csr : Fixed → Instr → ℕ
unasked_csr f i =
    if has_csr_operand (row_of i.op)
    then (if reads_csr i then fixed_value f (access_of f.mstatus i.csr f.privilege (writes_csr i.op (field_of_operand (row_of i.op) i))) else 0)
    else 0

-- the old value of the CSR that the step reads, known or not, and else 0
abbrev pub old_csr : Fixed → Instr → Option Entry → ℕ
old_csr f i (Some e) = e.value
old_csr f i None = unasked_csr f i

-- the values of a step by its instruction and its log: the fields, the address and the values of the sources; the page table entries, the
-- data word and the vector where they are new; the old value of the CSR wherever the step reads one. All others are 0.
abbrev pub assigned : Fixed → Known → Instr → List Entry → Values
assigned f known i log slots.Op = op_number i.op
assigned f known i log slots.Rs1 = i.rs1
assigned f known i log slots.Rs2 = i.rs2
assigned f known i log slots.Imm = i.imm
assigned f known i log slots.Rd = i.rd
assigned f known i log slots.Csr = i.csr
assigned f known i log slots.Ea = address_if (has_address (row_of i.op)) (value_in (labelled log FromRs1)) i.imm
assigned f known i log slots.A = value_in (labelled log FromRs1)
assigned f known i log slots.B = value_in (labelled log FromRs2)
assigned f known i log slots.FirstPte = new_value known (labelled log DataRoot)
assigned f known i log slots.SecondPte = new_value known (labelled log DataSecond)
assigned f known i log slots.DataWord = new_value known (labelled log DataWord)
assigned f known i log slots.OldCsr = old_csr f i (labelled log FromCsr)
assigned f known i log slots.Vector = new_value known (labelled log FromVector)

-- THE ANSWERS OF VALUES
abbrev pub given_by : Values → Label → ℕ
given_by x FetchRoot = x slots.FirstPte
given_by x FetchSecond = x slots.SecondPte
given_by x Fetched = word_of (instr_in x)
given_by x FromRs1 = x slots.A
given_by x FromRs2 = x slots.B
given_by x FromCsr = x slots.OldCsr
given_by x DataRoot = x slots.FirstPte
given_by x DataSecond = x slots.SecondPte
given_by x DataWord = x slots.DataWord
given_by x FromVector = x slots.Vector

-- the new places of the step that is answered so
abbrev pub new_places : Fixed → Known → Values → Known
new_places f known x = started known (log_of (answer_told (by_answers known (given_by x)) (script f)))
