use Rattle.std.proofs.Common.{true, ◌&&◌, Some}
use Rattle.dom_set.specs.Elements.{is_in}
use Rattle.row_parts.specs.declared.alike.Group.{Group}
use Rattle.row_parts.specs.Rows.{is_of, ends_in}
use Rattle.addr_rows.specs.Combinations.{rooted}
use Rattle.addr_rows.specs.Scenes.{setting_of}
use Rattle.addr_rows.proofs.Loops.{finished}
use Rattle.addr_rows.proofs.scene.Scene.push_root_groups.Goals as goal

pub returns : goal.returns
returns g c = λ x root leaf small.
    finished (λ (h : Group). is_of (Some h.values) root) (λ (h : Group). rooted (g.M.Words.at c.args.m.now) (setting_of c.args.self.now) true h.entry x leaf)
    c.args.groups.now c.loop-group.group-index (is_in c.args.set.now x && true)
    (ends_in c.args.rows.now.items x root leaf) (ends_in c.loop-group.rows.items x root leaf) c.loop-group-test.false (c.loop-group.invariant x root leaf small)
