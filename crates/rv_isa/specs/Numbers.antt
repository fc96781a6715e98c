-- The numbers of the operations: their rows' places in the table.
use Rattle.std.specs.Prelude.{◌≡◌, ℕ, ◌+◌, ◌<◌, if◌then◌else◌, List, [], ◌∷◌, slice_index_or}
use Rattle.std.specs.Str.{bytes_eq}
use Rattle.rv_isa.specs.declared.operation.Op.{Op}
use Rattle.rv_isa.specs.declared.operation.Op.TheVariants.{Illegal}
use Rattle.rv_isa.specs.declared.operation.TheConstants.{OPS}
use Rattle.rv_isa.specs.Names.{name_of}

-- the place of the first operation with this name
abbrev pub op_number_among : List ℕ → List Op → ℕ
op_number_among word [] = 0
op_number_among word (op ∷ ops) = if bytes_eq (name_of op) word then 0 else op_number_among word ops + 1

-- the number of an operation
unfoldable pub op_number : Op → ℕ
op_number op = op_number_among (name_of op) OPS

-- the operation with a number
unfoldable pub op_numbered : ℕ → Op
op_numbered n = slice_index_or OPS n Illegal

-- each operation has the number by which it is found
abbrev pub NumbersAreRead : Type 0
NumbersAreRead = (op : Op) → op_numbered (op_number op) ≡ op

-- each number below 58 is that of one operation
abbrev pub NumbersAreWhole : Type 0
NumbersAreWhole = (n : ℕ) → n < 58 → op_number (op_numbered n) ≡ n

abbrev pub NumbersAreSmall : Type 0
NumbersAreSmall = (op : Op) → op_number op < 58
