-- Entries that lead to the same ends.
use Rattle.std.specs.Prelude.{◌≡◌, ℕ, Bool, true, List, [], Option, Some, None}
use Rattle.std.specs.List.{list_any}
use Rattle.dom_set.specs.Elements.{is_in}
use Rattle.row_parts.specs.declared.alike.Group.{Group}
use Rattle.row_parts.specs.Times.{times_by}
use Rattle.row_parts.specs.Rows.{End, is_of, when}
use Rattle.row_parts.specs.Items.{by_items}

-- the ends of an address with an entry, and with a further new entry or none
abbrev pub Ends : Type 0
Ends = ℕ → ℕ → Option ℕ → List End

-- how many groups have the word
abbrev pub times_held : List Group → ℕ → ℕ
times_held groups w = times_by (λ g. is_in g.values w) groups

abbrev pub is_held : List Group → ℕ → Bool
is_held groups w = list_any (λ g. is_in g.values w) groups

-- two entries have the same ends
abbrev pub LeadAlike : Ends → ℕ → ℕ → Type 0
LeadAlike ends entry w = (x : ℕ) (leaf : Option ℕ) → ends entry x leaf ≡ ends w x leaf

-- all that the group has leads as its entry does
abbrev pub IsAlike : Ends → Group → Type 0
IsAlike ends g = (w : ℕ) → is_in g.values w ≡ true → LeadAlike ends g.entry w

-- the ends of the group that has the given word
abbrev pub by_groups : List Group → Option ℕ → (ℕ → List End) → List End
by_groups groups given f = by_items (λ g. is_of (Some g.values) given) groups (λ g. f g.entry)

-- the ends of the given word, if it passes
abbrev pub by_word : (ℕ → Bool) → Option ℕ → (ℕ → List End) → List End
by_word test None f = []
by_word test (Some w) f = when (test w) (f w)
