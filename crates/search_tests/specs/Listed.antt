-- A test that is kept as the list of its changes, as wholes.
use Rattle.std.specs.Prelude.{◌≡◌, ℕ, ◌%◌, Bool, List, [], ◌∷◌, ◌++◌, map, nat_eq, ◌==◌, ◌&&◌, ◌||◌, if◌then◌else◌, slice_index}
use Rattle.std.specs.List.{list_any}
use Rattle.tpl_ast.specs.declared.template.Item.{Item}
use Rattle.tpl_ast.specs.declared.template.Item.TheOpen.{Item-F}
use Rattle.tpl_ast.specs.declared.template.Item.TheOpen as layers
use Rattle.tpl_ast.specs.declared.template.Item.TheFolds.{fold-Item}
use Rattle.gen_search.specs.Search.{Rules, Turned, Taken, NoneFits, Spent}
use Rattle.search_tests.specs.declared.listed.Change.{Change}
use Rattle.search_tests.specs.declared.listed.Change.TheVariants as changes
use Rattle.search_tests.specs.declared.listed.ListedWhole.{ListedWhole}

-- all shorter beginnings of a list, the shortest first
abbrev pub beginnings : {A : Type 0} → List A → List (List A)
beginnings [] = []
beginnings (x ∷ xs) = [] ∷ map (λ ys. x ∷ ys) (beginnings xs)

abbrev pub whole_of : List ℕ → List ℕ → List ℕ → List Change → ListedWhole
whole_of dead odd large xs = record { dead = dead; odd = odd; large = large; changes = xs }

abbrev pub earlier_of : List ℕ → List ℕ → List ℕ → List Change → List ListedWhole
earlier_of dead odd large xs = map (whole_of dead odd large) (beginnings xs)

abbrev pub line_in : Item-F ℕ → ℕ
line_in (layers.Leaf line wishes) = line
line_in (layers.FetchFault line causes) = line
line_in (layers.Seq body) = 0
line_in (layers.Repeat times body) = 0
line_in (layers.Choose line ways) = 0
line_in (layers.Label name) = 0

-- the line of a leaf
abbrev pub line_of : Item → ℕ
line_of = fold-Item ℕ line_in

abbrev pub with_change : ListedWhole → Change → ListedWhole
with_change w c = record w { changes = w.changes ++ (c ∷ []) }

-- a line is among these
abbrev pub is_among : List ℕ → ℕ → Bool
is_among lines line = list_any (λ n. n == line) lines

-- nothing fits leaves on some lines, and those on others where their first draw is odd
abbrev pub fits_nothing : List ℕ → List ℕ → ℕ → List ℕ → Bool
fits_nothing dead odd line draws = is_among dead line || (is_among odd line && nat_eq (slice_index draws 0 % 2) 1)

-- a leaf's line and first draw decide, and a leaf that is taken is noted with its draws
abbrev pub turned_by : ℕ → Item → List ℕ → ListedWhole → Turned ListedWhole
turned_by hart leaf draws w =
    if fits_nothing w.dead w.odd (line_of leaf) draws then NoneFits
    else (if is_among w.large (line_of leaf) then Spent else Taken (with_change w (changes.Leaf hart (line_of leaf) draws)))

abbrev pub rules_of : Rules ListedWhole
rules_of = record {
  turn = λ hart leaf draws w answer. answer ≡ turned_by hart leaf draws w;
  label = λ hart name w. with_change w (changes.Label hart name);
  way = λ n w. with_change w (changes.Way n);
}
