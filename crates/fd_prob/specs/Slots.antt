-- The variables of a step, in the order in which assignments are compared.
use Rattle.std.specs.Prelude.{ℕ}
use Rattle.fd_prob.specs.declared.slot.Slot.{Slot}
use Rattle.fd_prob.specs.declared.slot.Slot.TheVariants as slots

-- a variable's place in the order
abbrev pub slot_number : Slot → ℕ
slot_number slots.Op = 0
slot_number slots.Rs1 = 1
slot_number slots.Rs2 = 2
slot_number slots.Imm = 3
slot_number slots.Rd = 4
slot_number slots.Csr = 5
slot_number slots.Ea = 6
slot_number slots.A = 7
slot_number slots.B = 8
slot_number slots.FirstPte = 9
slot_number slots.SecondPte = 10
slot_number slots.DataWord = 11
slot_number slots.OldCsr = 12
slot_number slots.Vector = 13
