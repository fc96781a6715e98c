-- What a table says of the values at its indices.
use Rattle.std.specs.Prelude.{ℕ, ◌==◌, Bool, false, not, List, Option, Some, None, IsTrue, slice_get}
use Rattle.dom_set.specs.Elements.{is_in, is_within}

-- the entry is a value that is not in the set
abbrev pub is_refused : List ℕ → Option (Option ℕ) → Bool
is_refused values (Some (Some v)) = not (is_in values v)
is_refused values (Some None) = false
is_refused values None = false

-- the entry is a value of the ranges
abbrev pub is_listed : List (ℕ × ℕ) → Option (Option ℕ) → Bool
is_listed values (Some (Some v)) = is_within values v
is_listed values (Some None) = false
is_listed values None = false

-- at each index of the ranges the table has a value that is not in the set
abbrev pub AreRefused : List (Option ℕ) → List ℕ → List (ℕ × ℕ) → Type 0
AreRefused table values indices = (i : ℕ) → IsTrue (is_within indices i) → IsTrue (is_refused values (slice_get table i))

-- at each index of the first ranges the table has a value of the second
abbrev pub AreListed : List (Option ℕ) → List (ℕ × ℕ) → List (ℕ × ℕ) → Type 0
AreListed table indices values = (i : ℕ) → IsTrue (is_within indices i) → IsTrue (is_listed values (slice_get table i))

-- the entry is a value other than this number
abbrev pub is_other : ℕ → Option (Option ℕ) → Bool
is_other n (Some (Some v)) = not (v == n)
is_other n (Some None) = false
is_other n None = false

-- at each index of the ranges the table has a value other than the index
abbrev pub AreOthers : List (Option ℕ) → List (ℕ × ℕ) → Type 0
AreOthers table indices = (i : ℕ) → IsTrue (is_within indices i) → IsTrue (is_other i (slice_get table i))
