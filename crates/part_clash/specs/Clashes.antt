-- With which touches the accesses of a hart's next step would race.
use Rattle.std.specs.Prelude.{◌≡◌, ℕ, Bool, true, ◌&&◌, ◌||◌, nat_eq, List}
use Rattle.std.specs.List.{list_any}
use Rattle.rv_script.specs.declared.access.Access.{Access}
use Rattle.rv_script.specs.declared.access.Role.{Role}
use Rattle.rv_script.specs.Bytes.{covers}
use Rattle.rv_script.specs.Lists.{HasItem}
use Rattle.foot_map.specs.declared.clash.Clash.{Clash}
use Rattle.foot_map.specs.Touches.{same_role}
use Rattle.foot_map.specs.Races.{breaks, IsNotAfter}

-- which byte which hart touches in which role
abbrev pub Feet : Type 0
Feet = ℕ → ℕ → Role → Bool

-- the hart touches the byte in the role, by what was done or by these accesses of the step
abbrev pub touches_with : Feet → ℕ → List Access → Feet
touches_with feet hart xs b h r = feet b h r || (nat_eq h hart && list_any (λ y. same_role y.role r && covers y b) xs)

-- an access of the step would race with this triple, which another step did or the step itself does
pub record IsStepClash (feet : Feet) (hart : ℕ) (xs : List Access) (c : Clash) : Type 0 where
  pub access : Access
  pub among : HasItem xs access
  pub covered : covers access c.byte ≡ true
  pub touched : touches_with feet hart xs c.byte c.hart c.role ≡ true
  pub broken : breaks (nat_eq c.hart hart) c.role access.role ≡ true

-- and no such triple comes before it, in the order of byte, hart and role
pub record IsLeastStepClash (feet : Feet) (hart : ℕ) (xs : List Access) (c : Clash) : Type 0 where
  pub clash : IsStepClash feet hart xs c
  pub least : (d : Clash) → IsStepClash feet hart xs d → IsNotAfter c d

-- there is none
abbrev pub HasNoStepClash : Feet → ℕ → List Access → Type 0
HasNoStepClash feet hart xs = (c : Clash) → IsStepClash feet hart xs c → ⊥
