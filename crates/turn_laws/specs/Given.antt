-- A leaf's turn as a test in the making gives it, and places that are given to it one by one.
use Rattle.std.specs.Prelude.{◌≡◌, ℕ, ◌^◌, ◌<◌, Bool, if◌then◌else◌, List, [], ◌∷◌, take, slice_index_or, Some, None}
use Rattle.rv_script.specs.declared.place.Place.{Place}
use Rattle.rv_script.specs.declared.place.Place.TheVariants.{Reg, Csr, Word}
use Rattle.rv_script.specs.Folds.{Known}
use Rattle.rv_script.specs.Logs.{same_place}
use Rattle.foot_map.specs.declared.touch.Touch.{Touch}
use Rattle.part_machine.specs.Whole.{Whole, fixed_in, hart_of, known_in}
use Rattle.part_state.specs.Meaning.{CanStart, place_given}
use Rattle.leaf_link.specs.Turns.{Turn}

-- what a template lets a step start, and the sets of its names; and the domain of `a` under the leaf's mandatory atoms alone
pub record Setting : Type 0 where
  pub pool : List ℕ
  pub tables : List ℕ
  pub flags : List ℕ
  pub vectors : List ℕ
  pub sets : ℕ → List ℕ
  pub sources : ℕ → Bool

-- what is known of hart k and of memory
abbrev pub known_at : ℕ → Whole → Known
known_at k w = known_in (hart_of k w) w.memory

-- the turn of a leaf of hart k, with the footprints of all records so far
abbrev pub turn_at : Setting → List Touch → ℕ → Whole → Turn
turn_at s feet k w = record {
  fixed = fixed_in (hart_of k w) w.memory;
  known = known_at k w;
  feet = feet;
  pool = s.pool;
  tables = s.tables;
  flags = s.flags;
  vectors = s.vectors;
  names = λ n. slice_index_or w.names n None;
  sets = s.sets;
  others = take k w.traces;
  sources = s.sources;
}

-- places of hart k, or of memory, with their first values, one after another
abbrev pub all_given : ℕ → List (Place × ℕ) → Whole → Whole
all_given k [] w = w
all_given k (e ∷ es) w = all_given k es (place_given k e.0 e.1 w)

-- the address of a word is one of 32 bits
abbrev pub IsAddressed : Place → Type 0
IsAddressed (Reg n) = Unit {0}
IsAddressed (Csr addr) = Unit {0}
IsAddressed (Word addr) = addr < 2 ^ 32

-- each has no value when its turn comes, and a start can give it this one
abbrev pub CanGive : ℕ → List (Place × ℕ) → Whole → Type 0
CanGive k [] w = Unit {0}
CanGive k (e ∷ es) w = CanStart k e.0 e.1 w × IsAddressed e.0 × (e.1 < 2 ^ 32) × CanGive k es (place_given k e.0 e.1 w)

-- the value that the list gives to a place
abbrev pub given_to : List (Place × ℕ) → Known
given_to [] place = None
given_to (e ∷ es) place = if same_place e.0 place then Some e.1 else given_to es place

-- the list has just these places with these values
abbrev pub AreListed : List (Place × ℕ) → Known → Type 0
AreListed es new = (place : Place) → given_to es place ≡ new place
