-- Runs but for the numbers that a second pattern matches, and lists of such pieces.
use Rattle.std.specs.Prelude.{◌≡◌, ℕ, ◌+◌, ◌-◌, ◌%◌, ◌^◌, ◌<◌, ◌≤◌, Bool, false, ◌&&◌, not, List, [], ◌∷◌, length, drop, get_or, Option, Some, None, IsNone}
use Rattle.std.specs.List.{list_any}
use Rattle.set_pieces.specs.Counting.{one}
use Rattle.set_pieces.specs.Internal.Patterns.{is_matched}
use Rattle.set_pieces.specs.Internal.Runs.{in_run}
use Rattle.set_pieces.specs.declared.piece.Piece.{Piece}

unfoldable pub in_piece : Piece → ℕ → Bool
in_piece p x = in_run p.run x && not (is_matched p.hole x)

abbrev pub is_held : Option Piece → ℕ → Bool
is_held None x = false
is_held (Some p) x = in_piece p x

-- whether some piece holds the number
abbrev pub holds : List Piece → ℕ → Bool
holds ps x = list_any (λ p. in_piece p x) ps

-- how many of the pieces hold the number
abbrev pub times : List Piece → ℕ → ℕ
times [] x = 0
times (p ∷ ps) x = one (in_piece p x) + times ps x

-- no number is in two of them
abbrev pub IsApart : List Piece → Type 0
IsApart ps = (x : ℕ) → times ps x ≤ 1

-- from each piece on they hold no number below its lowest
abbrev pub Ascends : List Piece → Type 0
Ascends ps = (k : ℕ) (d : Piece) → k < length ps → (x : ℕ) → x < (get_or ps k d).run.low → times (drop k ps) x ≡ 0

-- from the number on those that are kept hold each as often as the pieces before the place
abbrev pub AreAlive : List Piece → ℕ → List Piece → ℕ → Type 0
AreAlive ps place alive from = (x : ℕ) → from ≤ x → times alive x + times (drop place ps) x ≡ times ps x

-- the piece holds the multiples of 2 ^ shift between its ends, which are such too
pub record IsMultiples (shift : ℕ) (p : Piece) : Type 0 where
  pub mask : p.run.pattern.mask ≡ 2 ^ shift - 1
  pub bits : p.run.pattern.bits ≡ 0
  pub low : p.run.low % 2 ^ shift ≡ 0
  pub high : p.run.high % 2 ^ shift ≡ 0
  pub whole : IsNone p.hole
