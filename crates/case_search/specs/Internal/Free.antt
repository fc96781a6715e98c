-- Variables for which one value is as good as another.
use Rattle.std.specs.Prelude.{◌≡◌, ◌≢◌, ℕ, ◌<◌, Bool, true, false, not, ◌||◌, List, All, IsTrue, length, slice_set, Option, MatchOption}
use Rattle.std.specs.List.{list_all}
use Rattle.dom_set.specs.Elements.{is_in}
use Rattle.rv_isa.specs.declared.operation.Op.{Op}
use Rattle.fd_prob.specs.Mentions.{mentions}
use Rattle.fd_narrow.specs.Narrowing.{domain_in}
use Rattle.fd_prob.specs.declared.problem.Assignment.{Assignment}
use Rattle.fd_prob.specs.declared.relation.Rel.{Rel}
use Rattle.fd_prob.specs.declared.slot.Slot.{Slot}
use Rattle.fd_prob.specs.Order.{rank}
use Rattle.fd_prob.specs.Relations.{holds}
use Rattle.fd_prob.specs.Slots.{slot_number}

-- the assignment with another value for the variable
abbrev pub put : Assignment → Slot → ℕ → Assignment
put x s v = record { values = slice_set x.values (slot_number s) v }

-- the relations that look at the variable hold
abbrev pub own_hold : Op → Assignment → Slot → List Rel → Bool
own_hold op x s rels = list_all (λ r. not (mentions r s) || holds op x r) rels

-- of what the relation looks at only this variable can have several values
abbrev pub IsSettled : List (List ℕ) → Slot → Rel → Type 0
IsSettled doms s r = (t : Slot) → mentions r t ≡ true → slot_number t ≢ slot_number s → length (domain_in doms t) ≡ 1

-- each relation that looks at the variable is so
abbrev pub IsFree : List (List ℕ) → Slot → List Rel → Type 0
IsFree doms s rels = All (λ r. mentions r s ≡ true → IsSettled doms s r) rels

-- the first element upwards from the pivot with which the relations that look at the variable hold, or None where they hold with no element
abbrev pub IsFirstPassing : (ℕ → Bool) → List ℕ → ℕ → Option ℕ → Type 0
IsFirstPassing passes xs pivot o =
    MatchOption o ((w : ℕ) → IsTrue (is_in xs w) → passes w ≡ false)
    (λ v. IsTrue (is_in xs v) × (passes v ≡ true) × ((w : ℕ) → IsTrue (is_in xs w) → rank pivot w < rank pivot v → passes w ≡ false))
