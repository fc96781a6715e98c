-- How many steps a walk through bodies has.
use Rattle.std.specs.Prelude.{ℕ, ◌+◌, ◌*◌, List, [], ◌∷◌, map, max, Vec}
use Rattle.std.specs.Global.{Global}
use Rattle.tpl_ast.specs.declared.template.Item.{Item}
use Rattle.tpl_ast.specs.declared.template.Item.TheOpen.{Item-F}
use Rattle.tpl_ast.specs.declared.template.Item.TheOpen as layers
use Rattle.tpl_ast.specs.declared.template.Item.TheFolds.{fold-Item}
use Rattle.tpl_ast.specs.Lengths.{sum_of, longest_of}

abbrev pub steps_in : Item-F ℕ → ℕ
steps_in (layers.Leaf line wishes) = 1
steps_in (layers.FetchFault line causes) = 1
steps_in (layers.Seq body) = 3 + sum_of body.items
steps_in (layers.Repeat times body) = 2 + times * (1 + sum_of body.items)
steps_in (layers.Choose line ways) = 3 + longest_of ways.items
steps_in (layers.Label name) = 1

-- how many steps of a walk an item takes at most, those into and out of blocks included
abbrev pub steps_of : Item → ℕ
steps_of = fold-Item ℕ steps_in

abbrev pub steps_of_body : List Item → ℕ
steps_of_body items = sum_of (map steps_of items)

-- the longest of alternatives
abbrev pub longest_steps : List (ℕ × Vec Item Global) → ℕ
longest_steps [] = 0
longest_steps (w ∷ ws) = max (steps_of_body w.1.items) (longest_steps ws)
