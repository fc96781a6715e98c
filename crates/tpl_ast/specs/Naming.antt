-- Names in the order of the text: first those of the head, then each label where it stands.
use Rattle.std.specs.Prelude.{◌≡◌, ℕ, ◌+◌, ◌^◌, ◌<◌, true, ◌==◌, nat_le, List, [], ◌∷◌, length, map, Option, Some, None, Vec, if◌then◌else◌}
use Rattle.std.specs.Global.{Global}
use Rattle.std.specs.List.{AllByRecursion, list_all, slice_get}
use Rattle.dom_set.specs.Elements.{is_in}
use Rattle.tpl_ast.specs.declared.template.HartDecl.{HartDecl}
use Rattle.tpl_ast.specs.declared.template.Item.{Item}
use Rattle.tpl_ast.specs.declared.template.Item.TheFolds.{fold-Item}
use Rattle.tpl_ast.specs.declared.template.Item.TheOpen.{Item-F}
use Rattle.tpl_ast.specs.declared.template.Item.TheOpen as layers
use Rattle.tpl_ast.specs.declared.template.NameDecl.{NameDecl}
use Rattle.tpl_ast.specs.Leaves.{atoms_of, is_name_below}

-- ---- bodies

-- how many names are known behind a part of a body, from how many are known in front of it; None where the part breaks the order
abbrev pub Naming : Type 0
Naming = ℕ → Option ℕ

infixl 10 ◌>>=◌
abbrev pub ◌>>=◌ : {A B : Type 0} → Option A → (A → Option B) → Option B
(Some x) >>= f = f x
None >>= f = None

-- one part behind another
abbrev pub named_in_turn : List Naming → Naming
named_in_turn [] known = Some known
named_in_turn (x ∷ xs) known = x known >>= named_in_turn xs

-- the alternatives of a choice in turn, all of them, since each has its labels
abbrev pub named_by_ways : List (ℕ × Vec Naming Global) → Naming
named_by_ways [] known = Some known
named_by_ways (w ∷ ws) known = named_in_turn w.1.items known >>= named_by_ways ws

-- one item, with that of each inner item in its place: a leaf uses known names alone, a label is the next name, and a repeat has no label
abbrev pub naming_in : Item-F Naming → Naming
naming_in (layers.Leaf line wishes) known = if list_all (is_name_below known) (atoms_of wishes.items) then Some known else None
naming_in (layers.FetchFault line causes) known = Some known
naming_in (layers.Seq body) known = named_in_turn body.items known
naming_in (layers.Repeat times body) known = named_in_turn body.items known >>= λ behind. if behind == known then Some known else None
naming_in (layers.Choose line ways) known = named_by_ways ways.items known
naming_in (layers.Label name) known = if name == known then Some (known + 1) else None

abbrev pub naming_of_item : Item → Naming
naming_of_item = fold-Item Naming naming_in

-- the items of a body in turn
abbrev pub naming_of_body : List Item → Naming
naming_of_body items = named_in_turn (map naming_of_item items)

-- the bodies of the harts in turn
abbrev pub naming_of_harts : List HartDecl → Naming
naming_of_harts [] known = Some known
naming_of_harts (h ∷ hs) known = naming_of_body h.body.items known >>= naming_of_harts hs

-- ---- names

-- how many names are no labels: those of the head
abbrev pub count_in_head : List NameDecl → ℕ
count_in_head [] = 0
count_in_head (d ∷ ds) = if d.label then count_in_head ds else count_in_head ds + 1

-- every word can be the value of a label
abbrev pub IsFreeLabel : NameDecl → Type 0
IsFreeLabel d = d.label ≡ true → (x : ℕ) → x < 2 ^ 32 → is_in d.set x ≡ true

-- the names of the head come first; then each label of the bodies is the next name at its place, and no leaf uses a name in front of its place
pub record AreNamesInOrder (names : List NameDecl) (harts : List HartDecl) : Type 0 where
  pub labels : (i : ℕ) (d : NameDecl) → slice_get names i ≡ Some d → d.label ≡ nat_le (count_in_head names) i
  pub values : AllByRecursion IsFreeLabel names
  pub bodies : naming_of_harts harts (count_in_head names) ≡ Some (length names)
