use Rattle.std.proofs.Common.{◌≡◌, ℕ, true, ◌&&◌, List, ◌++◌, ap, ◌∙◌}
use Rattle.dom_set.specs.Counting.{one}
use Rattle.dom_set.specs.Elements.{is_in}
use Rattle.row_parts.specs.declared.alike.Group.{Group}
use Rattle.row_parts.specs.Alike.{by_groups}
use Rattle.row_parts.specs.Forms.{times_in}
use Rattle.addr_rows.specs.Combinations.{rooted}
use Rattle.row_parts.specs.Rows.{End, ends_in, when}
use Rattle.addr_rows.specs.Scenes.{setting_of}
use Rattle.addr_rows.proofs.Settings.{at_most_one}
use Rattle.addr_rows.proofs.Fresh.{root_groups}
use Rattle.addr_rows.proofs.scene.Scene.push_new_roots.Goals as goal

pub grouped-requires : goal.grouped-requires
grouped-requires g c = λ w.
    let same : times_in c.in_ok-firsts.firsts.items w ≡ times_in c.args.self.now.firsts.items w = ap (λ (vs : List ℕ). times_in vs w) (c.in_ok-firsts.ensures.items ∙ c.deref.ensures.value) in
    at_most_one (is_in c.args.self.now.firsts.items w) (times_in c.in_ok-firsts.firsts.items w) (same ∙ c.requires.kept.firsts w)

pub returns : goal.returns
returns g c = λ x root leaf small.
    let once : (w : ℕ) → times_in c.in_ok-firsts.firsts.items w ≡ one (is_in c.args.self.now.firsts.items w) =
    λ w. ap (λ (vs : List ℕ). times_in vs w) (c.in_ok-firsts.ensures.items ∙ c.deref.ensures.value) ∙ c.requires.kept.firsts w in
    c.in_ok-push_root_groups.ensures x root leaf small
    ∙ ap (λ (gs : List Group). ends_in c.args.rows.now.items x root leaf ++ when (is_in c.args.set.now x && true) (by_groups gs root (λ (w : ℕ). rooted (g.M.Words.at c.args.m.now) (setting_of c.args.self.now) true w x leaf))) c.deref-2.ensures.value
    ∙ ap (λ (es : List End). ends_in c.args.rows.now.items x root leaf ++ es)
    (root_groups (g.M.Words.at c.args.m.now) (setting_of c.args.self.now) c.in_ok-groups.groups.items c.in_ok-indices_of.field-0.first c.in_ok-indices_of.field-0.end x root leaf (is_in c.args.set.now x)
    (c.in_ok-groups.ensures.ends (is_in c.args.self.now.firsts.items) root x leaf once) (c.in_ok-indices_of.ensures x) c.requires.may)
