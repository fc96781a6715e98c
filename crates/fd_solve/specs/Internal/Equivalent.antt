-- Cases that stand for those of a problem.
use Rattle.std.specs.Prelude.{◌≡◌, ◌<◌, ℕ, Bool, ⊤, All, List, [], ◌∷◌, length, slice_index_or, Option, None, Some, IfSome}
use Rattle.fd_prob.specs.declared.problem.Case.{Case}
use Rattle.fd_prob.specs.declared.problem.Extra.{Extra}
use Rattle.fd_prob.specs.declared.problem.Assignment.{Assignment}
use Rattle.fd_prob.specs.Fitting.{IsCase, fits_case}
use Rattle.fd_prob.specs.Order.{IsAssignment}
use Rattle.fd_solve.specs.Internal.Marks.{marked_case}

-- the same assignments fit both cases, which are of one operation
pub record StandsIn (c made : Case) : Type 0 where
  pub whole : IsCase made
  pub op : made.op ≡ c.op
  pub same : (x : Assignment) → IsAssignment x → fits_case x made ≡ fits_case x c

-- case by case, the same assignments fit both
abbrev pub AreEquivalent : List Case → List Case → Type 0
AreEquivalent [] [] = ⊤
AreEquivalent (c ∷ cases) (d ∷ made) = StandsIn c d × AreEquivalent cases made
AreEquivalent _ _ = ⊥

-- each of the others is so with what marked biases add to the case at its place
pub record AreMarked (marks : List Bool) (biases : List Extra) (cases made : List Case) : Type 0 where
  pub count : length made ≡ length cases
  pub each : (n : ℕ) (c d : Case) → n < length cases → StandsIn (marked_case marks biases n (slice_index_or cases n c)) (slice_index_or made n d)

-- the same where there are cases, and nothing else
abbrev pub AreBrought : List Bool → List Extra → Option (List Case) → Option (List Case) → Type 0
AreBrought marks biases None made = made ≡ None
AreBrought marks biases (Some cases) None = ⊥
AreBrought marks biases (Some cases) (Some made) = AreMarked marks biases cases made

-- a case that was made stands for the one at its place
abbrev pub IsTried : List Case → ℕ × Case → Type 0
IsTried cases made = (made.0 < length cases) × ((c : Case) → StandsIn (slice_index_or cases made.0 c) made.1)

-- each of them does
abbrev pub AreTried : List Case → List (ℕ × Case) → Type 0
AreTried cases made = All (IsTried cases) made

-- where others are given, they are so
abbrev pub StandFor : List Case → Option (List Case) → Type 0
StandFor cases made = IfSome made (AreEquivalent cases)
