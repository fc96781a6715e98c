-- The ends of the items that pass a test.
use Rattle.std.specs.Prelude.{◌≡◌, ℕ, Bool, List, [], ◌∷◌, ◌++◌, Some, slice_get}
use Rattle.rv_mem.specs.declared.words.Seen.{Seen}
use Rattle.row_parts.specs.Classes.{same}
use Rattle.row_parts.specs.Rows.{End, when}

abbrev pub by_items : {X : Type 0} → (X → Bool) → List X → (X → List End) → List End
by_items test [] f = []
by_items test (x ∷ xs) f = when (test x) (f x) ++ by_items test xs f

-- the ends for each item of the list that is seen so
abbrev pub by_kind : List Seen → Seen → (Seen → List End) → List End
by_kind kinds seen f = by_items (λ k. same k seen) kinds f

-- what is seen at a place of the table is seen once in the list, so that it gives its own ends
abbrev pub GivesEach : List Seen → List Seen → Type 0
GivesEach table kinds = (i : ℕ) (seen : Seen) (f : Seen → List End) → slice_get table i ≡ Some seen → by_kind kinds seen f ≡ f seen
