-- Which accesses race.
use Rattle.std.specs.Prelude.{◌≡◌, ◌≢◌, ℕ, ◌+◌, ◌%◌, ◌<◌, ◌≤◌, ◌⊎◌, Bool, true, false, not, ◌&&◌, nat_eq, if◌then◌else◌, List, [], ◌∷◌, ◌++◌, ◌↔◌}
use Rattle.std.specs.List.{list_any}
use Rattle.rv_script.specs.declared.access.Access.{Access}
use Rattle.rv_script.specs.declared.access.Role.{Role}
use Rattle.rv_script.specs.declared.access.Role.TheVariants.{Fetch, Walk, Load, Store}
use Rattle.rv_script.specs.Lists.{HasItem}
use Rattle.rv_script.specs.Bytes.{covers, is_look}
use Rattle.foot_map.specs.declared.touch.Touch.{Touch}
use Rattle.foot_map.specs.declared.clash.Clash.{Clash}
use Rattle.foot_map.specs.Order.{rank}
use Rattle.foot_map.specs.Touches.{has}

-- two roles on one byte break race-freedom: by one hart (true) or by two (false)
abbrev pub breaks : Bool → Role → Role → Bool
breaks same Fetch Fetch = false
breaks same Fetch Walk = false
breaks same Fetch Load = false
breaks same Fetch Store = true
breaks same Walk Fetch = false
breaks same Walk Walk = false
breaks same Walk Load = false
breaks same Walk Store = true
breaks same Load Fetch = false
breaks same Load Walk = false
breaks same Load Load = false
breaks same Load Store = not same
breaks same Store Fetch = true
breaks same Store Walk = true
breaks same Store Load = not same
breaks same Store Store = not same

-- both touch some byte
abbrev pub Meet : Access → Access → Type 0
Meet x y = (b : ℕ) × (covers x b ≡ true) × (covers y b ≡ true)

-- the byte is fetched or walked
abbrev pub is_code : Role → Bool
is_code Fetch = true
is_code Walk = true
is_code Load = false
is_code Store = false

-- of the accesses that each hart did
pub record IsRaceFree (did : ℕ → List Access) : Type 0 where
  -- no byte that one hart stores is in the footprint of another
  pub harts : (j k : ℕ) → j ≢ k → (x y : Access) → HasItem (did j) x → HasItem (did k) y → Meet x y → is_look x.role ≡ true
  -- no byte that any hart stores is fetched or walked by any hart
  pub code : (j k : ℕ) (x y : Access) → HasItem (did j) x → HasItem (did k) y → is_code y.role ≡ true → Meet x y → is_look x.role ≡ true

-- the set is exactly the bytes of these accesses, with their harts and roles
abbrev pub IsFootprint : List Touch → (ℕ → List Access) → Type 0
IsFootprint touches did = (b h : ℕ) (r : Role) → (has touches b h r ≡ true) ↔ ((x : Access) × HasItem (did h) x × (x.role ≡ r) × (covers x b ≡ true))

-- one access more of a hart
abbrev pub with_access : (ℕ → List Access) → ℕ → Access → ℕ → List Access
with_access did k x j = if nat_eq j k then did k ++ x ∷ [] else did j

-- a triple of the set on the byte breaks with one of the hart's in the role
abbrev pub is_blocked : List Touch → ℕ → Role → ℕ → Bool
is_blocked touches hart role b = list_any (λ t. nat_eq t.byte b && breaks (nat_eq t.hart hart) t.role role) touches

-- two triples of the set are on one byte and break
abbrev pub has_race : List Touch → Bool
has_race touches = list_any (λ t. is_blocked touches t.hart t.role t.byte) touches

-- a triple of the set that breaks with one that an access would add: hart, role, address, length
pub record IsClash (touches : List Touch) (hart : ℕ) (role : Role) (addr len : ℕ) (c : Clash) : Type 0 where
  pub held : has touches c.byte c.hart c.role ≡ true
  pub from : addr ≤ c.byte
  pub below : c.byte < addr + len
  pub broken : breaks (nat_eq c.hart hart) c.role role ≡ true

-- in the order of byte, hart and role
abbrev pub IsNotAfter : Clash → Clash → Type 0
IsNotAfter c d = (c.byte < d.byte) ⊎ ((c.byte ≡ d.byte) × ((c.hart < d.hart) ⊎ ((c.hart ≡ d.hart) × (rank c.role ≤ rank d.role))))

-- some multiple of a length in a frame, given by its first byte, may be touched whole
abbrev pub HasRoom : List Touch → ℕ → Role → ℕ → ℕ → Type 0
HasRoom touches hart role frame len =
    (a : ℕ) × (frame ≤ a) × (a + len ≤ frame + 4096) × (a % len ≡ 0) × ((c : Clash) → IsClash touches hart role a len c → ⊥)
