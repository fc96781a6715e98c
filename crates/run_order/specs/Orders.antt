-- The order in which harts take their turns.
use Rattle.std.specs.Prelude.{◌≡◌, ℕ, zero, suc, ◌+◌, ◌-◌, ◌%◌, ◌<◌, nat_eq, if◌then◌else◌, All, List, [], ◌∷◌, ◌++◌, length, slice_index, slice_set}
use Rattle.rand_pcg.specs.Lcg.{Lcg, started, increment_of}
use Rattle.rand_pcg.specs.Pcg.{multiplier_64, pcg32}
use Rattle.tpl_admit.specs.System.{times}

-- how many turns there are in all
abbrev pub turns_in : List ℕ → ℕ
turns_in [] = 0
turns_in (n ∷ ns) = n + turns_in ns

-- a hart, if it has turns left
abbrev pub ready_of : ℕ → ℕ → List ℕ
ready_of k turns = if nat_eq turns 0 then [] else k ∷ []

-- the harts that have turns left, in ascending order; the first number is that of the first hart
abbrev pub with_turns : ℕ → List ℕ → List ℕ
with_turns k [] = []
with_turns k (n ∷ ns) = ready_of k n ++ with_turns (k + 1) ns

-- one turn less of hart k
abbrev pub one_less : ℕ → List ℕ → List ℕ
one_less k left = slice_set left k (slice_index left k - 1)

-- the hart that a draw picks among those that have turns left
abbrev pub picked : ℕ → List ℕ → ℕ
picked draw left = slice_index (with_turns 0 left) (draw % length (with_turns 0 left))

-- so many turns, one draw for each
abbrev pub drawn : ℕ → Lcg → List ℕ → List ℕ
drawn zero g left = []
drawn (suc n) g left = picked (pcg32 g).0 left ∷ drawn n (pcg32 g).1 (one_less (picked (pcg32 g).0 left) left)

-- the order of harts with so many turns each that a number draws
abbrev pub order_of : ℕ → List ℕ → List ℕ
order_of number left = drawn (turns_in left) (started 64 multiplier_64 number (increment_of 64 0)) left

-- ---- what is said of it

-- each turn is one of a hart that there is
abbrev pub TurnsAreOfHarts : Type 0
TurnsAreOfHarts = (number : ℕ) (left : List ℕ) → All (λ k. k < length left) (order_of number left)

-- and each hart's turn comes as often as it has turns
abbrev pub TurnsAreTaken : Type 0
TurnsAreTaken = (number : ℕ) (left : List ℕ) (k : ℕ) → times k (order_of number left) ≡ slice_index left k
