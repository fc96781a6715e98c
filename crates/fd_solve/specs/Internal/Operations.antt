-- What a search finds operation by operation.
use Rattle.std.specs.Prelude.{◌≡◌, ℕ, ◌<◌, ◌≤◌, List, Any, IsTrue, slice_index}
use Rattle.fd_prob.specs.declared.problem.Assignment.{Assignment}
use Rattle.fd_prob.specs.declared.problem.Case.{Case}
use Rattle.fd_prob.specs.declared.problem.Problem.{Problem}
use Rattle.fd_prob.specs.declared.slot.Slot.{Slot}
use Rattle.fd_prob.specs.declared.slot.Slot.TheVariants as slots
use Rattle.fd_prob.specs.Fitting.{fits}
use Rattle.fd_prob.specs.Laws.{IsOfCase}
use Rattle.fd_prob.specs.Order.{ComesBefore, IsAssignment, pivot_of}
use Rattle.fd_prob.specs.Relations.{value_of}
use Rattle.fd_prob.specs.Slots.{slot_number}

-- the assignment has the operation and is of one of the cases
abbrev pub IsMadeOfAny : ℕ → List Case → Assignment → Type 0
IsMadeOfAny op cases x = IsAssignment x × (value_of x slots.Op ≡ op) × Any (IsOfCase x) cases

-- the pivots are those of the problem with an operation
abbrev pub ArePivots : Problem → ℕ → List ℕ → Type 0
ArePivots p op pivots = (s : Slot) → slice_index pivots (slot_number s) ≡ pivot_of p op s

-- the assignment fits the problem
abbrev pub IsFitting : Problem → Assignment → Type 0
IsFitting p x = IsAssignment x × IsTrue (fits p x)

-- x is the least that fits with an operation from this number up, operation by operation
pub record IsLeastFrom (p : Problem) (from : ℕ) (x : Assignment) : Type 0 where
  pub fitting : IsFitting p x
  pub above : from ≤ value_of x slots.Op
  pub lower : (y : Assignment) → IsFitting p y → from ≤ value_of y slots.Op → value_of y slots.Op < value_of x slots.Op → ⊥
  pub least : (y : Assignment) → IsFitting p y → value_of y slots.Op ≡ value_of x slots.Op → ComesBefore p y x → ⊥

-- nothing fits with an operation of these numbers
abbrev pub NoneBetween : Problem → ℕ → ℕ → Type 0
NoneBetween p from to = (y : Assignment) → IsFitting p y → from ≤ value_of y slots.Op → value_of y slots.Op < to → ⊥
