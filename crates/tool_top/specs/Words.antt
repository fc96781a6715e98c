-- The words that the program is given.
use Rattle.std.specs.Prelude.{◌≡◌, ℕ, List, drop, map, string_bytes, String}
use Rattle.std.specs.Global.{Global}
use Rattle.std.specs.Vec.Iter.{into_iter_items}
use Rattle.std.specs.declared.vec.IntoIter.{IntoIter}

-- the words are the arguments behind the first one, which is the program's own name
abbrev pub AreBehindName : List (List ℕ) → IntoIter (String Global) Global → Type 0
AreBehindName words args = words ≡ drop 1 (map (λ s. string_bytes s) (into_iter_items args))
