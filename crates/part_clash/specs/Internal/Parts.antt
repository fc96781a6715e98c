-- The parts of a search for the least clash.
use Rattle.std.specs.Prelude.{◌≡◌, ℕ, true, nat_eq, List, Option, Some, None}
use Rattle.rv_script.specs.declared.access.Access.{Access}
use Rattle.rv_script.specs.Bytes.{covers}
use Rattle.foot_map.specs.declared.clash.Clash.{Clash}
use Rattle.foot_map.specs.Races.{breaks, IsNotAfter}
use Rattle.part_clash.specs.Clashes.{Feet, touches_with}

-- the first with the property, in the order of byte, hart and role; none where there is none
abbrev pub IsLeastWith : (Clash → Type 0) → Option Clash → Type 0
IsLeastWith P None = (c : Clash) → P c → ⊥
IsLeastWith P (Some c) = P c × ((d : Clash) → P d → IsNotAfter c d)

-- the access would race with this triple, which another access of the hart touches
pub record IsOwnClash (hart : ℕ) (x y : Access) (c : Clash) : Type 0 where
  pub covered : covers x c.byte ≡ true
  pub touched : covers y c.byte ≡ true
  pub by_hart : c.hart ≡ hart
  pub in_role : c.role ≡ y.role
  pub broken : breaks true c.role x.role ≡ true

-- the access would race with this triple, which was touched before or which these accesses of the step touch
pub record IsAccessClash (feet : Feet) (hart : ℕ) (xs : List Access) (x : Access) (c : Clash) : Type 0 where
  pub covered : covers x c.byte ≡ true
  pub touched : touches_with feet hart xs c.byte c.hart c.role ≡ true
  pub broken : breaks (nat_eq c.hart hart) c.role x.role ≡ true
