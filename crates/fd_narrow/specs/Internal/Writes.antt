-- What an operand makes an instruction write to a control and status register.
use Rattle.std.specs.Prelude.{ℕ, Bool, ◌&&◌, ◌⊎◌, nat_eq, if◌then◌else◌, Option, Some, None, IsTrue}
use Rattle.rv_csr.specs.Table.{is_legal_at}
use Rattle.fd_prob.specs.declared.problem.Assignment.{Assignment}
use Rattle.fd_prob.specs.declared.slot.Slot.{Slot}
use Rattle.fd_prob.specs.declared.slot.Slot.TheVariants as slots
use Rattle.fd_prob.specs.Relations.{is_none_or_legal, value_of}
use Rattle.word_sets.specs.declared.sources.Made.{Made}
use Rattle.word_sets.specs.declared.changes.Change.{Change}
use Rattle.word_sets.specs.Internal.Changes.{changed}
use Rattle.word_sets.specs.Internal.Sources.{made}

-- what is written; where zero writes nothing, an operand of 0 does not
abbrev pub written : Change → Bool → ℕ → ℕ → Option ℕ
written change zero old operand = if zero && nat_eq operand 0 then None else Some (changed change old operand)

-- what is written by the value of rs1, where rs1 is not x0
abbrev pub by_register : Change → Assignment → Option ℕ
by_register change x = if nat_eq (value_of x slots.Rs1) 0 then None else Some (changed change (value_of x slots.OldCsr) (value_of x slots.A))

-- what is written by the operand of an assignment is legal
abbrev pub IsLegalOperand : ℕ → Change → Bool → Slot → Assignment → Type 0
IsLegalOperand csr change zero s x = IsTrue (is_none_or_legal csr (written change zero (value_of x slots.OldCsr) (value_of x s)))

-- what comes of the values of two variables is legal, or the first is 0 and that writes nothing
abbrev pub IsLegalFrom : ℕ → Made → Bool → Slot → Slot → Assignment → Type 0
IsLegalFrom csr how zero s t x = IsTrue (zero && nat_eq (value_of x s) 0) ⊎ IsTrue (is_legal_at csr (made how (value_of x s) (value_of x t)))
