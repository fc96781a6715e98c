-- How often each operation was fetched.
use Rattle.std.specs.Prelude.{ℕ, ◌+◌, ◌==◌, Bool, false, List, [], ◌∷◌, ◌++◌, Option, Some, None, if◌then◌else◌, slice_index}
use Rattle.rv_isa.specs.declared.operation.Op.{Op}
use Rattle.rv_isa.specs.declared.operation.TheConstants.{OPS}
use Rattle.rv_isa.specs.Numbers.{op_number}
use Rattle.rv_hart.specs.declared.record.Record.{Record}
use Rattle.tpl_admit.specs.declared.certificate.Cert.{Cert}
use Rattle.tpl_admit.specs.Admitting.{is_unfetched}
use Rattle.tpl_admit.specs.Variables.{instruction_in, op_in}

-- the number of the operation that a record fetched; where its fetch failed there is none
abbrev pub fetched_in : Record → Option ℕ
fetched_in r = if is_unfetched r.outcome then None else op_in (instruction_in r)

abbrev pub is_number : ℕ → Option ℕ → Bool
is_number n None = false
is_number n (Some m) = m == n

-- how many records of a hart fetched the operation with a number
abbrev pub times_in : ℕ → List Record → ℕ
times_in n [] = 0
times_in n (r ∷ rs) = (if is_number n (fetched_in r) then 1 else 0) + times_in n rs

-- how many of all harts
abbrev pub times_of : ℕ → List (List Record) → ℕ
times_of n [] = 0
times_of n (t ∷ ts) = times_in n t + times_of n ts

-- an operation with its count, if it has one
abbrev pub counted : Op → ℕ → List (Op × ℕ)
counted op n = if n == 0 then [] else (op, n) ∷ []

-- operations in their order, each with how many records fetched it
abbrev pub counts_among : List (List Record) → List Op → List (Op × ℕ)
counts_among traces [] = []
counts_among traces (op ∷ ops) = counted op (times_of (op_number op) traces) ++ counts_among traces ops

-- the operations that were fetched, in the order of the table
unfoldable pub counts_of : Cert → List (Op × ℕ)
counts_of c = counts_among c.traces OPS

-- the same from counters, one for each number of an operation
abbrev pub counts_by : List ℕ → List Op → List (Op × ℕ)
counts_by totals [] = []
counts_by totals (op ∷ ops) = counted op (slice_index totals (op_number op)) ++ counts_by totals ops
