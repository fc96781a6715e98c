-- What is noted of the accesses of a step, so that it can be undone.
use Rattle.std.specs.Prelude.{◌≡◌, ℕ, ◌-◌, ◌/◌, ◌%◌, ◌^◌, ◌<◌, Bool, ◌&&◌, ◌||◌, not, nat_eq, if◌then◌else◌, All, List, [], ◌∷◌, map}
use Rattle.std.specs.List.{list_any}
use Rattle.rv_script.specs.declared.access.Access.{Access}
use Rattle.rv_script.specs.declared.access.Role.{Role}
use Rattle.rv_mem.specs.declared.words.Seen.{Seen}
use Rattle.rv_mem.specs.declared.words.Seen.TheVariants.{Known}
use Rattle.foot_map.specs.Touches.{is_masked, is_part}
use Rattle.part_machine.specs.declared.notes.Note.{Note}

-- which hart touches which byte in which role
abbrev pub Feet : Type 0
Feet = ℕ → ℕ → Role → Bool

-- one of the bytes that were new
abbrev pub any_masked : ℕ → List Note → Feet
any_masked hart notes b h r = list_any (λ x. is_masked hart x.role x.addr x.mask b h r) notes

-- without the bytes that were new
abbrev pub taken_out : ℕ → List Note → Feet → Feet
taken_out hart notes feet b h r = feet b h r && not (any_masked hart notes b h r)

-- with the bytes of accesses
abbrev pub touched : ℕ → List Access → Feet → Feet
touched hart xs feet b h r = feet b h r || list_any (λ x. is_part hart x.role x.addr x.size b h r) xs

-- a word is seen so, and all others as before
abbrev pub with_seen : ℕ → Seen → (ℕ → Seen) → ℕ → Seen
with_seen n seen at i = if nat_eq i n then seen else at i

-- with the words that stood at the accesses
abbrev pub put_back : List Note → (ℕ → Seen) → ℕ → Seen
put_back [] at = at
put_back (x ∷ xs) at = put_back xs (with_seen (x.addr / 4) (Known x.word) at)

-- a mask within the word of its address
abbrev pub IsWithinWord : Note → Type 0
IsWithinWord x = x.mask < 2 ^ (4 - x.addr % 4)

-- the word at the access is known
abbrev pub IsKnownAt : (ℕ → Seen) → ℕ → Type 0
IsKnownAt at addr = (v : ℕ) × (at (addr / 4) ≡ Known v)

-- the word that stood at the access
abbrev pub IsWordOf : (ℕ → Seen) → Note → Type 0
IsWordOf at x = at (x.addr / 4) ≡ Known x.word

-- the notes of a hart's accesses: the bytes that they added, and the words that stood there
pub record AreNotes (hart : ℕ) (xs : List Access) (at : ℕ → Seen) (old new : Feet) (notes : List Note) : Type 0 where
  pub added : (b h : ℕ) (r : Role) → new b h r ≡ touched hart xs old b h r
  pub undone : (b h : ℕ) (r : Role) → taken_out hart notes new b h r ≡ old b h r
  pub places : map (λ x. x.addr) notes ≡ map (λ x. x.addr) xs
  pub words : All (IsWordOf at) notes
  pub within : All IsWithinWord notes
