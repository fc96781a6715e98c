use Rattle.std.proofs.Common.{◌≡◌, ℕ, ◌/◌, ◌%◌, ◌^◌, ◌<◌, not, ◌&&◌, ◌++◌, Option, drop}
use Rattle.dom_set.specs.Elements.{is_in}
use Rattle.row_parts.specs.Classes.{entry_at}
use Rattle.row_parts.specs.Rows.{when, is_of, ends_in}
use Rattle.addr_rows.specs.Combinations.{at_second, is_table, is_own_entry}
use Rattle.row_parts.specs.Items.{by_kind}
use Rattle.addr_rows.specs.Scenes.{setting_of, is_some}
use Rattle.addr_rows.proofs.scene.Scene.push_second_kinds.Given as goal

abbrev pub invariant-loop-seen : goal.invariant-loop-seen
invariant-loop-seen g l = (x : ℕ) (root leaf : Option ℕ) → x < 2 ^ 32
    → ends_in l.rows.items x root leaf ++ when (is_in l.set x && is_of l.own root) (by_kind (drop l.seen-index l.kinds) (entry_at (g.M.Words.at l.m) l.frame (x / 2 ^ 12 % 2 ^ 10)) (λ k. at_second (setting_of l.self) (is_table l.self.tables.items l.frame && not (is_own_entry (setting_of l.self) (is_some l.own) l.frame x)) x k leaf))
    ≡ ends_in l.initial.rows.items x root leaf ++ when (is_in l.set x && is_of l.own root) (by_kind l.kinds (entry_at (g.M.Words.at l.m) l.frame (x / 2 ^ 12 % 2 ^ 10)) (λ k. at_second (setting_of l.self) (is_table l.self.tables.items l.frame && not (is_own_entry (setting_of l.self) (is_some l.own) l.frame x)) x k leaf))
