use Rattle.std.proofs.Common.{◌≡◌, ℕ, ◌^◌, ◌<◌, ◌&&◌, [], ◌∷◌, ◌++◌, Option, drop}
use Rattle.dom_set.specs.Elements.{is_in}
use Rattle.row_parts.specs.Alike.{by_groups}
use Rattle.row_parts.specs.Gaps.{counts}
use Rattle.row_parts.specs.Rows.{when, is_of, ends_in}
use Rattle.addr_rows.specs.Combinations.{second_reaches}
use Rattle.addr_rows.specs.Scenes.{setting_of}
use Rattle.addr_rows.proofs.scene.Scene.push_new_seconds.Given as goal

abbrev pub invariant-loop-group : goal.invariant-loop-group
invariant-loop-group l = (x : ℕ) (root leaf : Option ℕ) → x < 2 ^ 32
    → ends_in l.rows.items x root leaf ++ when (counts l.apart x && (is_in l.set x && is_of l.own root)) (by_groups (drop l.group-index l.self.seconds.items) leaf (λ w. second_reaches (setting_of l.self) x w ∷ []))
    ≡ ends_in l.initial.rows.items x root leaf ++ when (counts l.apart x && (is_in l.set x && is_of l.own root)) (by_groups l.self.seconds.items leaf (λ w. second_reaches (setting_of l.self) x w ∷ []))
