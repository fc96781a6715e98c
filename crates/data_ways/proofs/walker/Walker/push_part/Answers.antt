use Rattle.std.proofs.Common.{ℕ, ◌+◌, List, Bool, ◌&&◌, ◌||◌, drop, ap, ◌∙◌}
use Rattle.std.specs.List.{list_any}
use Rattle.dom_set.specs.Elements.{is_in}
use Rattle.addr_rows.specs.Walks.{has_value}
use Rattle.row_parts.proofs.Lists.{any_done, any_rest}
use Rattle.data_ways.specs.declared.barring.NewRoot.{NewRoot}
use Rattle.data_ways.specs.Internal.Making.{in_ways, part_has, part_in, takes}
use Rattle.data_ways.proofs.Told.{root_further, roots_through}
use Rattle.data_ways.proofs.walker.Walker.push_part.Goals as goal

pub loop-new-preserved : goal.loop-new-preserved
loop-new-preserved g c = λ test x first second small.
    let self = c.args.self.now in
    let part = c.args.part in
    let taken : NewRoot → Bool = takes (g.M.Words.at self.memory.now) self.feet.now self.hart self.view self.access part x first in
    let all = c.args.news.now in
    let i = c.loop-new.new-index in
    root_further
    (in_ways test c.loop-new.ways.items x first second || part_has test part (part_in part x && is_in c.loop-new.others.items first) second)
    (in_ways test c.push_first.new.ways.items x first second || part_has test part (part_in part x && is_in c.push_first.new.others.items first) second)
    (test part.end) (part_in part x) (taken c.new-item.result) (list_any taken (drop (i + 1) all)) (list_any taken (drop i all)) (has_value part.leaf.now second)
    (in_ways test c.args.ways.now.items x first second || part_has test part (part_in part x && list_any taken all) second)
    (c.in_ok-push_first.ensures test x first second small) (any_rest taken all i c.new-item.result c.loop-new-test.true c.new-item.is) (c.loop-new.invariant test x first second small)

pub returns : goal.returns
returns g c = λ test x first second small.
    let self = c.args.self.now in
    let part = c.args.part in
    let taken : NewRoot → Bool = takes (g.M.Words.at self.memory.now) self.feet.now self.hart self.view self.access part x first in
    let all = c.args.news.now in
    let i = c.loop-new.new-index in
    c.in_ok-push_way.ensures test x first second
    ∙ ap (λ (fs : List ℕ). in_ways test c.loop-new.ways.items x first second || part_has test part (part_in part x && is_in fs first) second) c.deref.ensures.value
    ∙ roots_through (in_ways test c.loop-new.ways.items x first second || part_has test part (part_in part x && is_in c.loop-new.others.items first) second)
    (test part.end) (part_in part x) (list_any taken (drop i all)) (has_value part.leaf.now second)
    (in_ways test c.args.ways.now.items x first second || part_has test part (part_in part x && list_any taken all) second)
    (any_done taken all i c.loop-new-test.false) (c.loop-new.invariant test x first second small)
