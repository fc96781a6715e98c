use Rattle.std.proofs.Common.{Bool, ℕ, List, [], ◌∷◌, not, ◌&&◌, ◌||◌, ◌==◌, sym, ap, ◌∙◌}
use Rattle.dom_set.specs.Elements.{is_in}
use Rattle.row_parts.specs.Gaps.{counts}
use Rattle.addr_rows.specs.Walks.{has_value}
use Rattle.std.proofs.lemmas.List.Folds.{list_any-append}
use Rattle.row_parts.proofs.Lists.{or_false}
use Rattle.data_bytes.proofs.Sets.{filter_leaves}
use Rattle.data_ways.specs.Internal.Making.{in_ways, part_has, part_in}
use Rattle.data_ways.specs.Internal.Tables.{is_newly_barred}
use Rattle.data_ways.proofs.Told.{counted_less, own_way, taken_too, untaken}
use Rattle.data_ways.proofs.walker.Walker.push_first.Goals as goal

pub returns : goal.returns
returns g c = λ test x first second small.
    let self = c.args.self.now in
    let part = c.args.part.now in
    let value = c.args.new.now.value in
    own_way (in_ways test c.args.ways.now.items x first second) (part_has test part (part_in part x && is_in c.args.others.now.items first) second) (in_ways test c.push_way.new.ways.items x first second)
    (test part.end) (part_in part x) (counts part.apart x && is_in c.in_ok-ea.ea x) (value == first) (has_value part.root.now value) (is_newly_barred (g.M.Words.at self.memory.now) self.feet.now self.hart self.view self.access part.end value x) (has_value part.leaf.now second)
    (c.in_ok-push_way.ensures test x first second)
    (ap (λ (b : Bool). counts part.apart x && b) (filter_leaves (λ y. not (is_in c.in_ok-barred.barred y)) part.ea c.in_ok-ea.ea c.in_ok-ea.ensures x ∙ ap (λ (b : Bool). is_in part.ea x && not b) (c.in_ok-barred.ensures x small))
    ∙ counted_less (counts part.apart x) (is_in part.ea x) _)
    (sym c.if-not-has_value.ensures)

pub returns-then-not-has_value : goal.returns-then-not-has_value
returns-then-not-has_value g c = λ test x first second small.
    let self = c.args.self.now in
    let part = c.args.part.now in
    let value = c.args.new.now.value in
    untaken (in_ways test c.args.ways.now.items x first second || part_has test part (part_in part x && is_in c.args.others.now.items first) second)
    (test part.end) (part_in part x) (value == first) (has_value part.root.now value) (not (is_newly_barred (g.M.Words.at self.memory.now) self.feet.now self.hart self.view self.access part.end value x)) (has_value part.leaf.now second)
    (sym c.if-not-has_value.ensures)

pub returns-then-is_empty : goal.returns-then-is_empty
returns-then-is_empty g c = λ test x first second small.
    let self = c.args.self.now in
    let part = c.args.part.now in
    let value = c.args.new.now.value in
    let others = c.args.others.now.items in
    taken_too (in_ways test c.args.ways.now.items x first second) (test part.end) (part_in part x) (is_in others first) (value == first) (has_value part.root.now value)
    (is_newly_barred (g.M.Words.at self.memory.now) self.feet.now self.hart self.view self.access part.end value x) (has_value part.leaf.now second) (is_in c.push.new.self.items first)
    (ap (λ (l : List ℕ). is_in l first) c.in_ok-push.ensures.items ∙ list_any-append (λ (y : ℕ). y == first) others (value ∷ []) ∙ ap (λ (b : Bool). is_in others first || b) (or_false (value == first)))
    (sym c.if-not-has_value.ensures)
    (sym (c.in_ok-barred.ensures x small) ∙ ap (λ (l : List ℕ). is_in l x) (c.is_empty.ensures.0 c.if-is_empty.true))
