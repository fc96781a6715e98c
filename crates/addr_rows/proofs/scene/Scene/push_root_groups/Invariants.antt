use Rattle.std.proofs.Common.{◌≡◌, ℕ, ◌^◌, ◌<◌, true, ◌&&◌, ◌++◌, Option, drop}
use Rattle.dom_set.specs.Elements.{is_in}
use Rattle.row_parts.specs.Alike.{by_groups}
use Rattle.row_parts.specs.Rows.{when, ends_in}
use Rattle.addr_rows.specs.Combinations.{rooted}
use Rattle.addr_rows.specs.Scenes.{setting_of}
use Rattle.addr_rows.proofs.scene.Scene.push_root_groups.Given as goal

abbrev pub invariant-loop-group : goal.invariant-loop-group
invariant-loop-group g l = (x : ℕ) (root leaf : Option ℕ) → x < 2 ^ 32
    → ends_in l.rows.items x root leaf ++ when (is_in l.set x && true) (by_groups (drop l.group-index l.groups) root (λ w. rooted (g.M.Words.at l.m) (setting_of l.self) true w x leaf))
    ≡ ends_in l.initial.rows.items x root leaf ++ when (is_in l.set x && true) (by_groups l.groups root (λ w. rooted (g.M.Words.at l.m) (setting_of l.self) true w x leaf))
