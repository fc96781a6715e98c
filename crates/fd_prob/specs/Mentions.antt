-- At which variables relations look.
use Rattle.std.specs.Prelude.{◌≡◌, Bool, true, ◌||◌, ◌==◌}
use Rattle.fd_prob.specs.declared.problem.Assignment.{Assignment}
use Rattle.fd_prob.specs.declared.relation.Rel.{Rel}
use Rattle.fd_prob.specs.declared.relation.Rel.TheVariants.{Same, Differ, Sum, Taken, Holds, Linked, Target, Writes, In, Rows}
use Rattle.fd_prob.specs.declared.slot.Slot.{Slot}
use Rattle.fd_prob.specs.declared.slot.Slot.TheVariants as slots
use Rattle.fd_prob.specs.Relations.{value_of}
use Rattle.fd_prob.specs.Slots.{slot_number}

-- both are one variable
abbrev pub is_slot : Slot → Slot → Bool
is_slot s t = slot_number s == slot_number t

-- for some operation the relation looks at the value of the variable
abbrev pub mentions : Rel → Slot → Bool
mentions (Same s t) v = is_slot s v || is_slot t v
mentions (Differ s t) v = is_slot s v || is_slot t v
mentions (Sum s t u) v = is_slot s v || is_slot t v || is_slot u v
mentions (Taken taken) v = is_slot slots.A v || is_slot slots.B v
mentions (Holds index value table) v = is_slot index v || is_slot value v
mentions Linked v = is_slot slots.Rs1 v || is_slot slots.Rs2 v || is_slot slots.A v || is_slot slots.B v
mentions (Target pc set) v = is_slot slots.A v || is_slot slots.Imm v
mentions Writes v = is_slot slots.Rs1 v || is_slot slots.A v || is_slot slots.Imm v || is_slot slots.Csr v || is_slot slots.OldCsr v
mentions (In s set) v = is_slot s v
mentions (Rows rows) v = is_slot slots.Ea v || is_slot slots.FirstPte v || is_slot slots.SecondPte v || is_slot slots.DataWord v

-- both have the same values for all variables that the relation mentions
abbrev pub Agree : Rel → Assignment → Assignment → Type 0
Agree r x y = (t : Slot) → mentions r t ≡ true → value_of x t ≡ value_of y t
