-- What stands in a list.
use Rattle.std.specs.Prelude.{◌≡◌, List, [], ◌∷◌, ◌⊎◌}

abbrev pub HasItem : {A : Type 0} → List A → A → Type 0
HasItem [] x = ⊥
HasItem (y ∷ ys) x = (y ≡ x) ⊎ HasItem ys x
