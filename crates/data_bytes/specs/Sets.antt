-- Sets by their tests.
use Rattle.std.specs.Prelude.{◌≡◌, ℕ, ◌^◌, ◌<◌, Bool, List}
use Rattle.dom_set.specs.Elements.{is_in}

-- the words in a set are those that pass a test
abbrev pub IsSetOf : (ℕ → Bool) → List ℕ → Type 0
IsSetOf test set = (v : ℕ) → v < 2 ^ 32 → is_in set v ≡ test v
