use Rattle.std.proofs.Common.{◌/◌, ◌%◌, ◌^◌, not, ◌&&◌}
use Rattle.dom_set.specs.Elements.{is_in}
use Rattle.row_parts.specs.Classes.{entry_at, same}
use Rattle.row_parts.specs.Rows.{is_of, ends_in}
use Rattle.addr_rows.specs.Combinations.{at_second, is_table, is_own_entry}
use Rattle.addr_rows.specs.Scenes.{setting_of, is_some}
use Rattle.addr_rows.proofs.Loops.{finished}
use Rattle.addr_rows.proofs.scene.Scene.push_second_kinds.Goals as goal

pub returns : goal.returns
returns g c = λ x root leaf small.
    finished (λ k. same k (entry_at (g.M.Words.at c.args.m.now) c.args.frame (x / 2 ^ 12 % 2 ^ 10))) (λ k. at_second (setting_of c.args.self.now) (is_table c.args.self.now.tables.items c.args.frame && not (is_own_entry (setting_of c.args.self.now) (is_some c.args.own.now) c.args.frame x)) x k leaf)
    c.args.kinds.now c.loop-seen.seen-index (is_in c.args.set.now x && is_of c.args.own.now root)
    (ends_in c.args.rows.now.items x root leaf) (ends_in c.loop-seen.rows.items x root leaf) c.loop-seen-test.false (c.loop-seen.invariant x root leaf small)
