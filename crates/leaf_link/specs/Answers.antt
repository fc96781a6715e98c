-- The answer of a problem, over what is wanted in place of assignments.
use Rattle.std.specs.Prelude.{◌≡◌, ℕ, ◌<◌, ◌≤◌, ◌↔◌, true, List, [], ◌∷◌}
use Rattle.rv_script.specs.Folds.{Known}
use Rattle.fd_prob.specs.declared.problem.Assignment.{Assignment}
use Rattle.fd_prob.specs.declared.problem.Problem.{Problem}
use Rattle.fd_prob.specs.declared.slot.Slot.{Slot}
use Rattle.fd_prob.specs.declared.slot.Slot.TheVariants as slots
use Rattle.fd_prob.specs.Fitting.{fits}
use Rattle.fd_prob.specs.Order.{ComesBefore, IsAssignment}
use Rattle.fd_prob.specs.Relations.{value_of}
use Rattle.fd_solve.specs.declared.answers.Solved.{Solved}
use Rattle.fd_solve.specs.declared.answers.Solved.TheVariants as answers
use Rattle.leaf_link.specs.Values.{Values}
use Rattle.leaf_link.specs.Cases.{Case, Fits}

-- the values as an assignment
abbrev pub assignment_of : Values → Assignment
assignment_of x = record {
  values = x slots.Op ∷ x slots.Rs1 ∷ x slots.Rs2 ∷ x slots.Imm ∷ x slots.Rd ∷ x slots.Csr ∷ x slots.Ea ∷ x slots.A ∷ x slots.B ∷ x slots.FirstPte ∷ x slots.SecondPte ∷ x slots.DataWord ∷ x slots.OldCsr ∷ x slots.Vector ∷ [];
}

abbrev pub values_in : Assignment → Values
values_in x s = value_of x s

-- a problem's assignments are those that fit cases
pub record IsProblemOf (p : Problem) (cs : List Case) : Type 0 where
  pub same : (x : Assignment) → IsAssignment x → (fits p x ≡ true) ↔ Fits cs (values_in x)

-- the order of a problem, on values
abbrev pub ComesBeforeIn : Problem → Values → Values → Type 0
ComesBeforeIn p x y = ComesBefore p (assignment_of x) (assignment_of y)

-- values are those of wanted places, and no others that are wanted have values that come before them
pub record IsLeastOf (Before : Values → Values → Type 0) (Wanted : Known → Type 0) (values : (new : Known) → Wanted new → Values) (new : Known) (x : Values) : Type 0 where
  pub is : Wanted new
  pub are_values : (s : Slot) → x s ≡ values new is s
  pub least : (other : Known) (w : Wanted other) → Before (values other w) (values new is) → ⊥

-- the answer under a budget: that it is spent where the space exceeds it, and else the values of the least places that are wanted, or that there are none
abbrev pub IsAnswerOver : ℕ → ℕ → (Values → Values → Type 0) → (Wanted : Known → Type 0) → ((new : Known) → Wanted new → Values) → (Values → Known) → Solved → Type 0
IsAnswerOver space nodes Before Wanted values places (answers.Found x) = (space ≤ nodes) × IsLeastOf Before Wanted values (places (values_in x)) (values_in x)
IsAnswerOver space nodes Before Wanted values places answers.NoneFits = (space ≤ nodes) × ((new : Known) → Wanted new → ⊥)
IsAnswerOver space nodes Before Wanted values places answers.Spent = nodes < space
