-- What is known of the atoms of a leaf.
use Rattle.std.specs.Prelude.{◌≡◌, ℕ, ◌<◌, ◌≤◌, Bool, true, false, not, ◌&&◌, ◌||◌, nat_eq, nat_le, nat_lt, List, [], ◌∷◌, length, map}
use Rattle.std.specs.List.{AllByRecursion, list_all}
use Rattle.tpl_ast.specs.declared.template.Atom.{Atom}
use Rattle.tpl_ast.specs.declared.template.Atom.TheVariants as atoms
use Rattle.tpl_ast.specs.declared.template.Var.{Var}
use Rattle.tpl_ast.specs.declared.template.Var.TheVariants as vars
use Rattle.tpl_ast.specs.declared.template.Wish.{Wish}
use Rattle.tpl_ast.specs.Limits.{most_atoms}

abbrev pub var_number : Var → ℕ
var_number vars.Op = 0
var_number vars.Rs1 = 1
var_number vars.Rs2 = 2
var_number vars.Rd = 3
var_number vars.Imm = 4
var_number vars.Csr = 5
var_number vars.Ea = 6
var_number vars.A = 7
var_number vars.B = 8
var_number vars.Pa = 9
var_number vars.Target = 10
var_number vars.Outcome = 11

abbrev pub same_var : Var → Var → Bool
same_var v u = nat_eq (var_number v) (var_number u)

-- two different ones of rs1, rs2 and rd, or a and b, in this order
abbrev pub are_comparable : Var → Var → Bool
are_comparable vars.Rs1 vars.Rs2 = true
are_comparable vars.Rs1 vars.Rd = true
are_comparable vars.Rs2 vars.Rs1 = true
are_comparable vars.Rs2 vars.Rd = true
are_comparable vars.Rd vars.Rs1 = true
are_comparable vars.Rd vars.Rs2 = true
are_comparable vars.A vars.B = true
are_comparable _ _ = false

-- relations between two variables are between two registers, or between the values of the sources
abbrev pub IsPlain : Atom → Type 0
IsPlain (atoms.Same v u) = are_comparable v u ≡ true
IsPlain (atoms.Differ v u) = are_comparable v u ≡ true
IsPlain _ = Unit {0}

-- a name stands in an atom, and in a leaf
abbrev pub names_it : ℕ → Atom → Bool
names_it name (atoms.Is v other) = nat_eq other name
names_it name _ = false

abbrev pub is_named_in : ℕ → List Atom → Bool
is_named_in name [] = false
is_named_in name (atom ∷ leaf) = names_it name atom || is_named_in name leaf

-- the name of an atom stands in none of the others
abbrev pub stands_alone : Atom → List Atom → Type 0
stands_alone (atoms.Is v name) leaf = is_named_in name leaf ≡ false
stands_alone _ leaf = Unit {0}

-- each name stands once in a leaf
abbrev pub NamedOnce : List Atom → Type 0
NamedOnce [] = Unit {0}
NamedOnce (atom ∷ leaf) = stands_alone atom leaf × NamedOnce leaf

-- ---- the same as tests

abbrev pub is_plain : Atom → Bool
is_plain (atoms.Same v u) = are_comparable v u
is_plain (atoms.Differ v u) = are_comparable v u
is_plain _ = true

abbrev pub is_alone : Atom → List Atom → Bool
is_alone (atoms.Is v name) leaf = not (is_named_in name leaf)
is_alone _ leaf = true

abbrev pub is_named_once : List Atom → Bool
is_named_once [] = true
is_named_once (atom ∷ leaf) = is_alone atom leaf && is_named_once leaf

-- the name that the atom speaks of is one of so many
abbrev pub is_name_below : ℕ → Atom → Bool
is_name_below count (atoms.Is v name) = nat_lt name count
is_name_below count _ = true

abbrev pub atoms_of : List Wish → List Atom
atoms_of ws = map (λ w. w.atom) ws

-- not too many atoms, none of which relates the physical address to another variable, and each of whose names is one of so many and stands once
abbrev pub is_leaf : ℕ → List Wish → Bool
is_leaf count ws =
    nat_le (length ws) most_atoms
    && (list_all is_plain (atoms_of ws)
    && (list_all (is_name_below count) (atoms_of ws)
    && is_named_once (atoms_of ws)))

-- an atom's name is one of so many
abbrev pub IsNameBelow : ℕ → Atom → Type 0
IsNameBelow count (atoms.Is v name) = name < count
IsNameBelow count _ = Unit {0}

-- what is known of the atoms of each leaf of a template with so many names
pub record IsLeaf (count : ℕ) (leaf : List Atom) : Type 0 where
  pub most : length leaf ≤ most_atoms
  pub plain : AllByRecursion IsPlain leaf
  pub names : AllByRecursion (IsNameBelow count) leaf
  pub once : NamedOnce leaf
