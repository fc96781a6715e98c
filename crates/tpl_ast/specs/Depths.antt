-- How much stands in a body, a measure for recursions over items.
use Rattle.std.specs.Prelude.{ℕ, ◌+◌, List, [], ◌∷◌, map, Vec}
use Rattle.std.specs.Global.{Global}
use Rattle.tpl_ast.specs.declared.template.Item.{Item}
use Rattle.tpl_ast.specs.declared.template.Item.TheOpen.{Item-F}
use Rattle.tpl_ast.specs.declared.template.Item.TheOpen as layers
use Rattle.tpl_ast.specs.declared.template.Item.TheFolds.{fold-Item}
use Rattle.tpl_ast.specs.Lengths.{sum_of}

abbrev pub ways_in : List (ℕ × Vec ℕ Global) → ℕ
ways_in [] = 0
ways_in (w ∷ ws) = 1 + sum_of w.1.items + ways_in ws

abbrev pub size_in : Item-F ℕ → ℕ
size_in (layers.Seq body) = 1 + sum_of body.items
size_in (layers.Repeat times body) = 1 + sum_of body.items
size_in (layers.Choose line ways) = 1 + ways_in ways.items
size_in _ = 1

abbrev pub size_of_item : Item → ℕ
size_of_item = fold-Item ℕ size_in

abbrev pub size_of_body : List Item → ℕ
size_of_body items = sum_of (map size_of_item items)

abbrev pub size_of_ways : List (ℕ × Vec Item Global) → ℕ
size_of_ways [] = 0
size_of_ways (w ∷ ws) = 1 + size_of_body w.1.items + size_of_ways ws
