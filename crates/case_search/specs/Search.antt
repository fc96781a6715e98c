-- The least of the assignments that meet a condition.
use Rattle.std.specs.Prelude.{◌≡◌, ℕ, ◌^◌, ◌<◌, ◌≤◌, ◌⊎◌, List, IsTrue, slice_index, Option, Some, None, MatchOption}
use Rattle.dom_set.specs.Elements.{is_in}
use Rattle.fd_narrow.specs.Narrowing.{AllHold, IsInside}
use Rattle.fd_prob.specs.declared.problem.Assignment.{Assignment}
use Rattle.fd_prob.specs.declared.problem.Case.{Case}
use Rattle.fd_prob.specs.declared.slot.Slot.{Slot}
use Rattle.fd_prob.specs.Laws.{IsOfCase}
use Rattle.fd_prob.specs.Order.{IsAssignment, rank}
use Rattle.fd_prob.specs.Relations.{value_of}
use Rattle.rv_isa.specs.Numbers.{op_numbered}
use Rattle.fd_prob.specs.Slots.{slot_number}

-- both have the same values
abbrev pub AreSame : Assignment → Assignment → Type 0
AreSame x y = (s : Slot) → value_of x s ≡ value_of y s

-- with these pivots, one for each variable, x comes before y
abbrev pub Before : List ℕ → Assignment → Assignment → Type 0
Before pivots x y =
    (s : Slot) × ((t : Slot) → slot_number t < slot_number s → value_of x t ≡ value_of y t)
    × (rank (slice_index pivots (slot_number s)) (value_of x s) < rank (slice_index pivots (slot_number s)) (value_of y s))

-- with these pivots, no value of x is nearer above its pivot than that of b
abbrev pub IsBound : List ℕ → Assignment → Assignment → Type 0
IsBound pivots b x = (s : Slot) → rank (slice_index pivots (slot_number s)) (value_of b s) ≤ rank (slice_index pivots (slot_number s)) (value_of x s)

-- x meets the condition, and nothing that meets it comes before x
pub record IsLeastOf (pivots : List ℕ) (P : Assignment → Type 0) (x : Assignment) : Type 0 where
  pub meets : P x
  pub least : (y : Assignment) → P y → Before pivots y x → ⊥

-- the least that meets the condition, or None where nothing does
abbrev pub LeastOrNone : List ℕ → (Assignment → Type 0) → Option Assignment → Type 0
LeastOrNone pivots P o = MatchOption o ((y : Assignment) → P y → ⊥) (IsLeastOf pivots P)

-- the values are in these domains and meet the relations of the case
pub record IsMet (c : Case) (doms : List (List ℕ)) (x : Assignment) : Type 0 where
  pub words : IsAssignment x
  pub inside : IsInside doms x
  pub holding : AllHold (op_numbered c.op) c.rels x

-- the assignment is of the case
abbrev pub IsMadeOf : Case → Assignment → Type 0
IsMadeOf c x = IsAssignment x × IsOfCase x c

-- all that is in the domains has the same values in the first n variables
abbrev pub FixedBelow : List (List ℕ) → ℕ → Type 0
FixedBelow doms n = (x y : Assignment) → IsInside doms x → IsInside doms y → (s : Slot) → slot_number s < n → value_of x s ≡ value_of y s

-- the cut domains have this value for the variable, and lack nothing with it that meets the relations of the case
pub record IsCut (c : Case) (doms : List (List ℕ)) (s : Slot) (v : ℕ) (cut : List (List ℕ)) : Type 0 where
  pub word : v < 2 ^ 32
  pub within : (x : Assignment) → IsInside cut x → IsInside doms x
  pub value : (x : Assignment) → IsInside cut x → value_of x s ≡ v
  pub keeps : (x : Assignment) → IsInside doms x → value_of x s ≡ v → AllHold (op_numbered c.op) c.rels x → IsInside cut x

-- the element whose rank from the pivot is the least of those that are k and more, or None where all are less
abbrev pub IsNext : List ℕ → ℕ → ℕ → Option ℕ → Type 0
IsNext xs pivot k o =
    MatchOption o ((w : ℕ) → IsTrue (is_in xs w) → rank pivot w < k)
    (λ v. IsTrue (is_in xs v) × (k ≤ rank pivot v) × ((w : ℕ) → IsTrue (is_in xs w) → k ≤ rank pivot w → rank pivot v ≤ rank pivot w))

-- the lesser of two that may be missing, the first where they are the same
abbrev pub IsLesser : List ℕ → Option Assignment → Option Assignment → Option Assignment → Type 0
IsLesser pivots None b o = o ≡ b
IsLesser pivots (Some x) None o = o ≡ Some x
IsLesser pivots (Some x) (Some y) o = ((o ≡ Some y) × Before pivots y x) ⊎ ((o ≡ Some x) × (Before pivots x y ⊎ AreSame x y))
