-- What holds of footprints, of sets of triples and of races.
use Rattle.std.specs.Prelude.{◌≡◌, ℕ, ◌↔◌, true, false, nat_eq, List, []}
use Rattle.rv_script.specs.declared.access.Access.{Access}
use Rattle.rv_script.specs.declared.access.Role.{Role}
use Rattle.rv_script.specs.Lists.{HasItem}
use Rattle.rv_script.specs.Bytes.{covers}
use Rattle.foot_map.specs.declared.touch.Touch.{Touch}
use Rattle.foot_map.specs.declared.clash.Clash.{Clash}
use Rattle.foot_map.specs.Order.{IsInOrder}
use Rattle.foot_map.specs.Touches.{has, IsInWord, IsAdded, IsMaskOfNew, IsRemoved}
use Rattle.foot_map.specs.Races.{breaks, IsRaceFree, IsFootprint, with_access, IsClash, is_blocked, has_race}

-- SETS

-- sets with the same triples are the same
abbrev pub SameTriplesSameSet : Type 0
SameTriplesSameSet = (s t : List Touch) → IsInOrder s → IsInOrder t → ((b h : ℕ) (r : Role) → has s b h r ≡ has t b h r) → s ≡ t

-- to remove what was new gives the set before
abbrev pub RemoveUndoesAdd : Type 0
RemoveUndoesAdd =
    (hart : ℕ) (role : Role) (addr len mask : ℕ) (s t u : List Touch)
    → IsInOrder s → IsInOrder u
    → IsAdded hart role addr len s t → IsMaskOfNew hart role addr len s mask → IsRemoved hart role addr mask t u
    → u ≡ s

-- RACES

-- no two accesses break race-freedom on a byte
abbrev pub NoneBreak : (ℕ → List Access) → Type 0
NoneBreak did = (j k : ℕ) (x y : Access) (b : ℕ) → HasItem (did j) x → HasItem (did k) y → covers x b ≡ true → covers y b ≡ true → breaks (nat_eq j k) x.role y.role ≡ false

-- the two sentences of race-freedom are one table of roles
abbrev pub RaceFreeByTable : Type 0
RaceFreeByTable = (did : ℕ → List Access) → IsRaceFree did ↔ NoneBreak did

-- fewer accesses are race-free too
abbrev pub FewerAreRaceFree : Type 0
FewerAreRaceFree = (did more : ℕ → List Access) → ((k : ℕ) (x : Access) → HasItem (did k) x → HasItem (more k) x) → IsRaceFree more → IsRaceFree did

-- FOOTPRINTS

-- no accesses have the empty footprint
abbrev pub EmptyFootprint : Type 0
EmptyFootprint = IsFootprint [] (λ k. [])

-- the same accesses have the same footprint
abbrev pub SameAccessesSameFootprint : Type 0
SameAccessesSameFootprint =
    (s : List Touch) (did other : ℕ → List Access) → ((k : ℕ) (x : Access) → HasItem (did k) x ↔ HasItem (other k) x)
    → IsFootprint s did → IsFootprint s other

-- adding the bytes of an access keeps the footprint
abbrev pub AddedFootprint : Type 0
AddedFootprint =
    (s t : List Touch) (did : ℕ → List Access) (k : ℕ) (x : Access)
    → IsFootprint s did → IsInWord x.addr x.size → IsAdded k x.role x.addr x.size s t
    → IsFootprint t (with_access did k x)

-- what clashes with nothing may join
abbrev pub NoClashRaceFree : Type 0
NoClashRaceFree =
    (s : List Touch) (did : ℕ → List Access) (k : ℕ) (x : Access)
    → IsFootprint s did → IsRaceFree did → ((c : Clash) → IsClash s k x.role x.addr x.size c → ⊥)
    → IsRaceFree (with_access did k x)

-- what clashes may not
abbrev pub ClashRaces : Type 0
ClashRaces =
    (s : List Touch) (did : ℕ → List Access) (k : ℕ) (x : Access) (c : Clash)
    → IsFootprint s did → IsInWord x.addr x.size → IsClash s k x.role x.addr x.size c
    → IsRaceFree (with_access did k x) → ⊥

-- a byte is blocked where the access of that byte clashes
abbrev pub BlockedWhereClash : Type 0
BlockedWhereClash = (s : List Touch) (hart : ℕ) (role : Role) (b : ℕ) → (is_blocked s hart role b ≡ true) ↔ ((c : Clash) × IsClash s hart role b 1 c)

-- the footprint of accesses has no race where they are race-free
abbrev pub NoRaceRaceFree : Type 0
NoRaceRaceFree = (s : List Touch) (did : ℕ → List Access) → IsFootprint s did → (has_race s ≡ false) ↔ IsRaceFree did
