-- The lengths of bodies, in records.
use Rattle.std.specs.Prelude.{ℕ, zero, suc, ◌+◌, ◌-◌, ◌*◌, ◌^◌, max, min, List, [], ◌∷◌, map, Option, Some, None, Vec}
use Rattle.std.specs.Global.{Global}
use Rattle.tpl_ast.specs.declared.template.HartDecl.{HartDecl}
use Rattle.tpl_ast.specs.declared.template.Item.{Item}
use Rattle.tpl_ast.specs.declared.template.Item.TheOpen.{Item-F}
use Rattle.tpl_ast.specs.declared.template.Item.TheOpen as layers
use Rattle.tpl_ast.specs.declared.template.Item.TheFolds.{fold-Item}

-- lengths end at 2 ^ 64 - 1
abbrev pub saturated : ℕ → ℕ
saturated n = min n (2 ^ 64 - 1)

abbrev pub sum_of : List ℕ → ℕ
sum_of [] = 0
sum_of (n ∷ ns) = n + sum_of ns

-- the longest of alternatives
abbrev pub longest_of : List (ℕ × Vec ℕ Global) → ℕ
longest_of [] = 0
longest_of (w ∷ ws) = max (sum_of w.1.items) (longest_of ws)

-- one item, with the length of each inner item in its place
abbrev pub length_in : Item-F ℕ → ℕ
length_in (layers.Leaf line wishes) = 1
length_in (layers.FetchFault line causes) = 1
length_in (layers.Seq body) = sum_of body.items
length_in (layers.Repeat times body) = times * max 1 (sum_of body.items)
length_in (layers.Choose line ways) = 1 + longest_of ways.items
length_in (layers.Label name) = 0

-- a leaf is 1, a label 0, a sequence the sum, a repeat its times by its body, which counts as 1 at least, and a choice 1 and its longest alternative
abbrev pub length_of_item : Item → ℕ
length_of_item = fold-Item ℕ length_in

abbrev pub length_of_body : List Item → ℕ
length_of_body items = sum_of (map length_of_item items)

-- the lengths of the harts' bodies together
abbrev pub length_of_harts : List HartDecl → ℕ
length_of_harts [] = 0
length_of_harts (h ∷ hs) = length_of_body h.body.items + length_of_harts hs

-- the longest body of alternatives
abbrev pub longest_body : List (ℕ × Vec Item Global) → ℕ
longest_body [] = 0
longest_body (w ∷ ws) = max (length_of_body w.1.items) (longest_body ws)

-- ---- the records of bodies that leave their number to no choice

abbrev pub plus : Option ℕ → Option ℕ → Option ℕ
plus None o = None
plus (Some n) None = None
plus (Some n) (Some m) = Some (n + m)

abbrev pub total_of : List (Option ℕ) → Option ℕ
total_of [] = Some 0
total_of (o ∷ os) = plus o (total_of os)

abbrev pub some_times : ℕ → Option ℕ → Option ℕ
some_times times None = None
some_times times (Some zero) = None
some_times times (Some (suc n)) = Some (times * suc n)

-- one item, with that of each inner item in its place: None for a choice, and for a repeat of a body without a record
abbrev pub fixed_in : Item-F (Option ℕ) → Option ℕ
fixed_in (layers.Leaf line wishes) = Some 1
fixed_in (layers.FetchFault line causes) = Some 1
fixed_in (layers.Seq body) = total_of body.items
fixed_in (layers.Repeat times body) = some_times times (total_of body.items)
fixed_in (layers.Choose line ways) = None
fixed_in (layers.Label name) = Some 0

abbrev pub fixed_of_item : Item → Option ℕ
fixed_of_item = fold-Item (Option ℕ) fixed_in

-- how many records a body has whatever is chosen, where no choice stands in it and no repeat of a body without a record
abbrev pub fixed_of_body : List Item → Option ℕ
fixed_of_body items = total_of (map fixed_of_item items)
