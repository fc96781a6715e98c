-- Steps of narrowing: each takes from the domains what does not meet a condition.
use Rattle.std.specs.Prelude.{◌≡◌, ◌==◌, ℕ, ◌^◌, ◌<◌, false, List, IsTrue}
use Rattle.dom_set.specs.Elements.{is_in}
use Rattle.fd_prob.specs.declared.problem.Assignment.{Assignment}
use Rattle.fd_prob.specs.declared.slot.Slot.{Slot}
use Rattle.fd_prob.specs.Relations.{value_of}
use Rattle.fd_narrow.specs.Narrowing.{IsInside}

-- what is inside the new domains was inside the old, and what was inside and meets the condition still is
pub record Leaves (condition : Assignment → Type 0) (old new : List (List ℕ)) : Type 0 where
  pub within : (x : Assignment) → IsInside new x → IsInside old x
  pub keeps : (x : Assignment) → IsInside old x → condition x → IsInside new x

-- the value of a variable is in the set; of what is no word nothing is said
abbrev pub IsValueIn : Slot → List ℕ → Assignment → Type 0
IsValueIn s set x = value_of x s < 2 ^ 32 → IsTrue (is_in set (value_of x s))

-- it is not in the set
abbrev pub IsValueOutside : Slot → List ℕ → Assignment → Type 0
IsValueOutside s set x = value_of x s < 2 ^ 32 → is_in set (value_of x s) ≡ false

-- whatever is inside has this value of the variable
abbrev pub IsOnly : List (List ℕ) → Slot → ℕ → Type 0
IsOnly doms s v = (x : Assignment) → IsInside doms x → value_of x s ≡ v

-- no assignment is meant
abbrev pub IsNever : Assignment → Type 0
IsNever x = ⊥

-- the variable has another value
abbrev pub IsAnother : Slot → ℕ → Assignment → Type 0
IsAnother s v x = (value_of x s == v) ≡ false
