-- What relations say of the values of a step's variables. The operation is that of the case in which the relation stands.
use Rattle.std.specs.Prelude.{ℕ, ◌+◌, ◌-◌, ◌%◌, ◌^◌, Bool, true, false, not, ◌&&◌, ◌||◌, ◌==◌, nat_eq, bit_and, bit_or, if◌then◌else◌, List, Option, Some, None, slice_get, slice_index}
use Rattle.std.specs.List.{list_any}
use Rattle.dom_set.specs.Elements.{is_in}
use Rattle.rv_csr.specs.Table.{is_legal_at}
use Rattle.rv_isa.specs.declared.operation.Op.{Op}
use Rattle.rv_isa.specs.declared.operation.Op.TheVariants.{Jal, Jalr, Csrrw, Csrrs, Csrrc, Csrrwi, Csrrsi, Csrrci}
use Rattle.rv_isa.specs.Arithmetic.{is_branch, is_taken}
use Rattle.fd_prob.specs.declared.problem.Assignment.{Assignment}
use Rattle.fd_prob.specs.declared.relation.Quad.{Quad}
use Rattle.fd_prob.specs.declared.relation.Rel.{Rel}
use Rattle.fd_prob.specs.declared.relation.Rel.TheVariants.{Same, Differ, Sum, Taken, Holds, Linked, Target, Writes, In, Rows}
use Rattle.fd_prob.specs.declared.slot.Slot.{Slot}
use Rattle.fd_prob.specs.declared.slot.Slot.TheVariants as slots
use Rattle.fd_prob.specs.Slots.{slot_number}

-- the value of a variable
abbrev pub value_of : Assignment → Slot → ℕ
value_of x s = slice_index x.values (slot_number s)

-- both variables have one value
abbrev pub is_same : Assignment → Slot → Slot → Bool
is_same x s t = value_of x s == value_of x t

-- the first plus the second is the third, modulo 2 ^ 32
abbrev pub is_sum : Assignment → Slot → Slot → Slot → Bool
is_sum x s t u = (value_of x s + value_of x t) % 2 ^ 32 == value_of x u

-- the operation is a branch, and its condition on the values of rs1 and rs2 is true or, at false, false
abbrev pub has_condition : Op → Assignment → Bool → Bool
has_condition op x true = is_branch op && is_taken op (value_of x slots.A) (value_of x slots.B)
has_condition op x false = is_branch op && not (is_taken op (value_of x slots.A) (value_of x slots.B))

-- where a table has a value, it is this one
abbrev pub agrees : Option (Option ℕ) → ℕ → Bool
agrees (Some (Some w)) v = w == v
agrees (Some None) v = true
agrees None v = true

-- where the table has a value at the index, it is that of the variable
abbrev pub is_held : Assignment → Slot → Slot → List (Option ℕ) → Bool
is_held x index value table = agrees (slice_get table (value_of x index)) (value_of x value)

-- one register has one value
abbrev pub is_linked : Assignment → Bool
is_linked x = not (is_same x slots.Rs1 slots.Rs2) || is_same x slots.A slots.B

-- where a branch or a jump at a pc goes, taken or not; JALR clears bit 0 (Unprivileged, 2.5)
abbrev pub target_of : Op → ℕ → Assignment → Option ℕ
target_of Jal pc x = Some ((pc + value_of x slots.Imm) % 2 ^ 32)
target_of Jalr pc x = let sum = (value_of x slots.A + value_of x slots.Imm) % 2 ^ 32 in Some (sum - sum % 2)
target_of op pc x = if is_branch op then Some ((pc + value_of x slots.Imm) % 2 ^ 32) else None

abbrev pub is_some_in : List ℕ → Option ℕ → Bool
is_some_in set None = false
is_some_in set (Some n) = is_in set n

-- there is a target, and it is in the set
abbrev pub has_target : Op → Assignment → ℕ → List ℕ → Bool
has_target op x pc set = is_some_in set (target_of op pc x)

-- what is written to the register at the address, if anything is: CSRRS and CSRRC write nothing where rs1 is x0, and CSRRSI and CSRRCI where the immediate is 0 (Unprivileged, Zicsr)
abbrev pub written_by : Op → Assignment → Option ℕ
written_by Csrrw x = Some (value_of x slots.A)
written_by Csrrs x = if nat_eq (value_of x slots.Rs1) 0 then None else Some (bit_or (value_of x slots.OldCsr) (value_of x slots.A))
written_by Csrrc x = if nat_eq (value_of x slots.Rs1) 0 then None else Some (bit_and (value_of x slots.OldCsr) (2 ^ 32 - 1 - value_of x slots.A))
written_by Csrrwi x = Some (value_of x slots.Imm)
written_by Csrrsi x = if nat_eq (value_of x slots.Imm) 0 then None else Some (bit_or (value_of x slots.OldCsr) (value_of x slots.Imm))
written_by Csrrci x = if nat_eq (value_of x slots.Imm) 0 then None else Some (bit_and (value_of x slots.OldCsr) (2 ^ 32 - 1 - value_of x slots.Imm))
written_by _ x = None

abbrev pub is_none_or_legal : ℕ → Option ℕ → Bool
is_none_or_legal csr None = true
is_none_or_legal csr (Some n) = is_legal_at csr n

-- what is written is legal for the register
abbrev pub writes_legal : Op → Assignment → Bool
writes_legal op x = is_none_or_legal (value_of x slots.Csr) (written_by op x)

-- the row holds the address and the words of memory
abbrev pub is_in_row : Assignment → Quad → Bool
is_in_row x row = is_in row.ea (value_of x slots.Ea) && is_in row.root (value_of x slots.FirstPte) && is_in row.leaf (value_of x slots.SecondPte) && is_in row.word (value_of x slots.DataWord)

-- a relation holds of an assignment
abbrev pub holds : Op → Assignment → Rel → Bool
holds op x (Same s t) = is_same x s t
holds op x (Differ s t) = not (is_same x s t)
holds op x (Sum s t u) = is_sum x s t u
holds op x (Taken taken) = has_condition op x taken
holds op x (Holds index value table) = is_held x index value table
holds op x Linked = is_linked x
holds op x (Target pc set) = has_target op x pc set
holds op x Writes = writes_legal op x
holds op x (In s set) = is_in set (value_of x s)
holds op x (Rows rows) = list_any (is_in_row x) rows
