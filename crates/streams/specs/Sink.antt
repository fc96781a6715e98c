-- The room of a sink, and what a text leaves in it.
use Rattle.std.specs.Prelude.{◌≡◌, ℕ, ◌+◌, ◌≤◌, List, length, take, Result, MatchResult, ◌⊎◌, ⊤, Some, None}
use Rattle.std.specs.declared.option.Option.{Option}
use Rattle.std.specs.Io.KnownBytes.{Appends}
use Rattle.streams.specs.Causes.{Rose, EndsAtFault}

-- a room that is told holds n bytes
abbrev pub HasRoom : Option ℕ → ℕ → Type 0
HasRoom None n = ⊤
HasRoom (Some room) n = n ≤ room

-- n bytes of a room that is told are used
abbrev pub RoomFalls : Option ℕ → Option ℕ → ℕ → Type 0
RoomFalls None new n = new ≡ None
RoomFalls (Some old) None n = ⊥
RoomFalls (Some old) (Some new) n = new + n ≡ old

-- a write uses the room of the bytes that it took, and none where it failed
abbrev pub Uses : {E : Type 0} → Option ℕ → Option ℕ → Result ℕ E → Type 0
Uses old new r = MatchResult r (λ n. RoomFalls old new n) (λ _. RoomFalls old new 0)

-- a front of the text was appended
abbrev pub GrowsByPrefix : Option (List ℕ) → Option (List ℕ) → List ℕ → Type 0
GrowsByPrefix old new text = (n : ℕ) × (n ≤ length text) × Appends old new (take n text)

-- a front of the text was appended, and the room of its bytes is used
pub record TakesPrefix (old new : Option (List ℕ)) (before after : Option ℕ) (text : List ℕ) : Type 0 where
  pub count : ℕ
  pub within : count ≤ length text
  pub appended : Appends old new (take count text)
  pub used : RoomFalls before after count

-- the whole text was appended, and no write failed; or a front of it, and then one write failed, and nothing was taken after it
abbrev pub Tells : Option (List ℕ) → Option (List ℕ) → List ℕ → Option ℕ → ℕ → ℕ → Type 0
Tells old new text fault_at before now = (Appends old new text × (now ≡ before)) ⊎ (GrowsByPrefix old new text × EndsAtFault new fault_at before now × Rose before now)
