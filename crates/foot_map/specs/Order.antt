-- The order of touches.
use Rattle.std.specs.Prelude.{ℕ, List}
use Rattle.std.specs.declared.cmp.Ordering.{Ordering}
use Rattle.std.specs.Ordering.{nat_cmp, on, then_cmp}
use Rattle.std.specs.List.Sorted.{IsStrictlySortedBy}
use Rattle.rv_script.specs.declared.access.Role.{Role}
use Rattle.rv_script.specs.declared.access.Role.TheVariants.{Fetch, Walk, Load, Store}
use Rattle.foot_map.specs.declared.touch.Touch.{Touch}

-- the place of a role in the order of roles
abbrev pub rank : Role → ℕ
rank Fetch = 0
rank Walk = 1
rank Load = 2
rank Store = 3

-- by byte, on one byte by hart, and then by role
abbrev pub by_place : Touch → Touch → Ordering
by_place = then_cmp (on (λ t. t.byte) nat_cmp) (then_cmp (on (λ t. t.hart) nat_cmp) (on (λ t. rank t.role) nat_cmp))

-- each is before all that stand after it
abbrev pub IsInOrder : List Touch → Type 0
IsInOrder = IsStrictlySortedBy by_place
