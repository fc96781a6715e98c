use Rattle.std.proofs.Common.{◌≡◌, ℕ, true, ◌/◌, ◌^◌, ◌<◌, ◌&&◌, ◌++◌, Option, drop}
use Rattle.dom_set.specs.Elements.{is_in}
use Rattle.row_parts.specs.Classes.{entry_at}
use Rattle.row_parts.specs.Rows.{when, ends_in}
use Rattle.addr_rows.specs.Combinations.{at_root, root_frame}
use Rattle.row_parts.specs.Items.{by_kind}
use Rattle.addr_rows.specs.Scenes.{setting_of}
use Rattle.addr_rows.proofs.scene.Scene.push_root_kinds.Given as goal

abbrev pub invariant-loop-seen : goal.invariant-loop-seen
invariant-loop-seen g l = (x : ℕ) (root leaf : Option ℕ) → x < 2 ^ 32
    → ends_in l.rows.items x root leaf ++ when (is_in l.set x && true) (by_kind (drop l.seen-index l.kinds) (entry_at (g.M.Words.at l.m) (root_frame l.self.view) (x / 2 ^ 22)) (λ k. at_root (g.M.Words.at l.m) (setting_of l.self) x k root leaf))
    ≡ ends_in l.initial.rows.items x root leaf ++ when (is_in l.set x && true) (by_kind l.kinds (entry_at (g.M.Words.at l.m) (root_frame l.self.view) (x / 2 ^ 22)) (λ k. at_root (g.M.Words.at l.m) (setting_of l.self) x k root leaf))
