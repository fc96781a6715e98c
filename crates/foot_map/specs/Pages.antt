-- The triples that pages of bits hold, as one list in order.
use Rattle.std.specs.Prelude.{◌≡◌, ◌<◌, ℕ, zero, suc, ◌+◌, ◌/◌, ◌%◌, ◌^◌, Bool, false, List, [], ◌∷◌, Option, Some, None, filter}
use Rattle.std.specs.BTreeMap.{BTreeMap, get}
use Rattle.rv_script.specs.declared.access.Role.{Role}
use Rattle.rv_script.specs.declared.access.Role.TheVariants.{Fetch, Walk, Load, Store}
use Rattle.lane_bits.specs.Pages.{has as has_offset}
use Rattle.foot_map.specs.declared.touch.Touch.{Touch}
use Rattle.foot_map.specs.Order.{by_place}

-- the role with a place in the order of roles
abbrev pub role_at : ℕ → Role
role_at zero = Fetch
role_at (suc zero) = Walk
role_at (suc (suc zero)) = Load
role_at (suc (suc (suc n))) = Store

-- the triple with a number: in their order, those of 256 harts and four roles on byte 0, then those on byte 1, and so on
abbrev pub numbered : ℕ → Touch
numbered n = record { byte = n / 1024; hart = n / 4 % 256; role = role_at (n % 4) }

-- so many triples from a number on
unfoldable pub numbered_from : ℕ → ℕ → List Touch
numbered_from start zero = []
numbered_from start (suc n) = numbered start ∷ numbered_from (start + 1) n

-- the triples on 2 ^ 32 bytes that pass the test, in order
unfoldable pub touches_of : (Touch → Bool) → List Touch
touches_of test = filter test (numbered_from 0 (2 ^ 42))

-- where the page is kept that has a triple
abbrev pub place_of : Touch → Touch
place_of t = record { byte = t.byte / 4096; hart = t.hart; role = t.role }

abbrev pub is_on : Option (List ℕ) → ℕ → Bool
is_on None x = false
is_on (Some page) x = has_offset page x

-- the triple is on its page
unfoldable pub is_kept : BTreeMap Touch (List ℕ) → Touch → Bool
is_kept pages t = is_on (get by_place pages (place_of t)) (t.byte % 4096)

-- the set that pages stand for
abbrev pub kept : BTreeMap Touch (List ℕ) → List Touch
kept pages = touches_of (is_kept pages)

-- pages are those of frames of 32-bit bytes, and of 256 harts
abbrev pub AreWithin : BTreeMap Touch (List ℕ) → Type 0
AreWithin pages = (q : Touch) (page : List ℕ) → get by_place pages q ≡ Some page → (q.byte < 2 ^ 20) × (q.hart < 256)
