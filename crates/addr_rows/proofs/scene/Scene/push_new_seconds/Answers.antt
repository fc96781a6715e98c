use Rattle.std.proofs.Common.{Bool, List, ◌<◌, ◌≤◌, length, get_or, subst, ◌&&◌, [], ◌∷◌, ◌++◌, Some, ap, ◌∙◌}
use Rattle.dom_set.specs.Elements.{is_in}
use Rattle.row_parts.specs.declared.alike.Group.{Group}
use Rattle.row_parts.specs.Gaps.{counts}
use Rattle.row_parts.specs.Items.{by_items}
use Rattle.row_parts.specs.Rows.{End, when, is_of, ends_in}
use Rattle.addr_rows.specs.Combinations.{second_reaches}
use Rattle.addr_rows.specs.Scenes.{setting_of}
use Rattle.addr_rows.proofs.Fresh.{seconds}
use Rattle.addr_rows.proofs.Loops.{finished, stepped}
use Rattle.addr_rows.proofs.scene.Scene.push_new_seconds.Goals as goal

pub returns : goal.returns
returns c = λ x root leaf small.
    let b : Bool = counts c.args.apart x && (is_in c.args.set.now x && is_of c.args.own.now root) in
    finished (λ (g : Group). is_of (Some g.values) leaf) (λ (g : Group). second_reaches (setting_of c.args.self.now) x g.entry ∷ []) c.args.self.now.seconds.items c.loop-group.group-index b
    (ends_in c.args.rows.now.items x root leaf) (ends_in c.loop-group.rows.items x root leaf) (subst (λ (ys : List Group). length ys ≤ c.loop-group.group-index) c.deref-group-items.ensures.value c.loop-group-test.false) (c.loop-group.invariant x root leaf small)
    ∙ ap (λ (es : List End). ends_in c.args.rows.now.items x root leaf ++ when b es) (c.requires.seconds leaf x ∙ seconds (setting_of c.args.self.now) x leaf)

pub loop-group-preserved : goal.loop-group-preserved
loop-group-preserved c = λ x root leaf small.
    let ends : Group → List End = λ (g : Group). second_reaches (setting_of c.args.self.now) x g.entry ∷ [] in
    let b : Bool = counts c.args.apart x && (is_in c.args.set.now x && is_of c.args.own.now root) in
    stepped (λ (g : Group). is_of (Some g.values) leaf) ends c.args.self.now.seconds.items c.loop-group.group-index c.group-item.result (counts c.args.apart x) (is_in c.args.set.now x) (is_of c.args.own.now root)
    (ends_in c.loop-group.rows.items x root leaf) (ends_in c.push_second_group.new.rows.items x root leaf) (ends_in c.args.rows.now.items x root leaf ++ when b (by_items (λ (g : Group). is_of (Some g.values) leaf) c.args.self.now.seconds.items ends))
    (subst (λ (ys : List Group). c.loop-group.group-index < length ys) c.deref-group-items.ensures.value c.loop-group-test.true)
    (c.group-item.is ∙ ap (λ (ys : List Group). get_or ys c.loop-group.group-index c.group-item.result) c.deref-group-items.ensures.value)
    (c.in_ok-push_second_group.ensures x root leaf small) (c.loop-group.invariant x root leaf small)
