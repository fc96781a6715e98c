use Rattle.std.proofs.Common.{true, ◌/◌, ◌^◌, ◌&&◌}
use Rattle.dom_set.specs.Elements.{is_in}
use Rattle.row_parts.specs.Classes.{entry_at, same}
use Rattle.row_parts.specs.Rows.{ends_in}
use Rattle.addr_rows.specs.Combinations.{at_root, root_frame}
use Rattle.addr_rows.specs.Scenes.{setting_of}
use Rattle.addr_rows.proofs.Loops.{finished}
use Rattle.addr_rows.proofs.scene.Scene.push_root_kinds.Goals as goal

pub returns : goal.returns
returns g c = λ x root leaf small.
    finished (λ k. same k (entry_at (g.M.Words.at c.args.m.now) (root_frame c.args.self.now.view) (x / 2 ^ 22))) (λ k. at_root (g.M.Words.at c.args.m.now) (setting_of c.args.self.now) x k root leaf)
    c.args.kinds.now c.loop-seen.seen-index (is_in c.args.set.now x && true)
    (ends_in c.args.rows.now.items x root leaf) (ends_in c.loop-seen.rows.items x root leaf) c.loop-seen-test.false (c.loop-seen.invariant x root leaf small)
