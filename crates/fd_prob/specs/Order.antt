-- The order of assignments: variable by variable, each upwards from a pivot and round to it again.
use Rattle.std.specs.Prelude.{◌≡◌, ℕ, ◌+◌, ◌-◌, ◌%◌, ◌^◌, ◌<◌, ◌==◌, nat_lt, if◌then◌else◌, List, [], ◌∷◌, All, length, map, find, slice_index, Option, Some, None}
use Rattle.fd_prob.specs.declared.problem.Assignment.{Assignment}
use Rattle.fd_prob.specs.declared.problem.Case.{Case}
use Rattle.fd_prob.specs.declared.problem.Problem.{Problem}
use Rattle.fd_prob.specs.declared.slot.Slot.{Slot}
use Rattle.fd_prob.specs.declared.slot.Slot.TheVariants as slots
use Rattle.fd_prob.specs.Fitting.{domain_of}
use Rattle.fd_prob.specs.Relations.{value_of}
use Rattle.fd_prob.specs.Slots.{slot_number}
use Rattle.fd_prob.specs.Spaces.{allowed_cases}

-- an assignment has a word for each variable
pub record IsAssignment (x : Assignment) : Type 0 where
  pub length : length x.values ≡ 14
  pub words : All (λ v. v < 2 ^ 32) x.values

-- the element of a domain that a draw picks, and 0 where there is none
abbrev pub picked : ℕ → List ℕ → ℕ
picked draw [] = 0
picked draw (x ∷ xs) = slice_index (x ∷ xs) (draw % length (x ∷ xs))

-- the draw for a variable
abbrev pub draw_of : Problem → Slot → ℕ
draw_of p s = slice_index p.pivots (slot_number s)

-- the numbers of the allowed operations, ascending
abbrev pub allowed_ops : Problem → List ℕ
allowed_ops p = map (λ c. c.op) (allowed_cases p)

-- the domain of a variable in a case, if there is one
abbrev pub domain_in : Option Case → Slot → List ℕ
domain_in None s = []
domain_in (Some c) s = domain_of c s

-- a variable's pivot with an operation: of the operation itself one of those that are allowed, of the other variables an element of the domain in the operation's first case
unfoldable pub pivot_of : Problem → ℕ → Slot → ℕ
pivot_of p op slots.Op = picked (draw_of p slots.Op) (allowed_ops p)
pivot_of p op s = picked (draw_of p s) (domain_in (find (λ c. c.op == op) p.cases) s)

-- how far a value stands above the pivot, upwards and round from the greatest word to 0
abbrev pub rank : ℕ → ℕ → ℕ
rank pivot v = if nat_lt v pivot then v + 2 ^ 32 - pivot else v - pivot

-- the value of x is nearer above the pivot than that of y; the pivot is that of x's operation
abbrev pub IsNearer : Problem → Assignment → Assignment → Slot → Type 0
IsNearer p x y s = let pivot = pivot_of p (value_of x slots.Op) s in rank pivot (value_of x s) < rank pivot (value_of y s)

-- x comes before y: at the first variable in which they differ, its value is nearer above the pivot
abbrev pub ComesBefore : Problem → Assignment → Assignment → Type 0
ComesBefore p x y = (s : Slot) × ((t : Slot) → slot_number t < slot_number s → value_of x t ≡ value_of y t) × IsNearer p x y s
