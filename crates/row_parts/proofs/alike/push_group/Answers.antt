use Rattle.std.proofs.Common.{ℕ, List, [], ◌∷◌, ◌++◌, ◌+◌, ◌≡◌, All, subst, sym, ap, ◌∙◌}
use Rattle.dom_set.specs.Elements.{is_in}
use Rattle.row_parts.specs.declared.alike.Group.{Group}
use Rattle.row_parts.specs.Forms.{times_in}
use Rattle.row_parts.specs.Alike.{Ends, LeadAlike, IsAlike, times_held}
use Rattle.row_parts.proofs.Sharing.{self_alike, group_count, group_alike}
use Rattle.row_parts.proofs.alike.push_group.Goals as goal

pub sort_values-requires : goal.sort_values-requires
sort_values-requires g c =
    subst (λ (ys : List ℕ). All (LeadAlike (g.E.Entries.ends c.args.choice.now) c.args.entry) ys) (sym (c.in_ok-push.ensures.items ∙ ap (λ (vs : List ℕ). vs ++ c.args.entry ∷ []) c.new-alike.ensures.items))
    (self_alike (g.E.Entries.ends c.args.choice.now) c.args.entry)

pub returns-clause-count : goal.returns-clause-count
returns-clause-count g c = λ w.
    let group : Group = record { entry = c.args.entry; values = c.in_ok-values.values } in
    let is : is_in c.in_ok-values.values w ≡ is_in c.sort_values.new.alike.items w = c.in_ok-values.ensures.each w ∙ ap (λ (vs : List ℕ). is_in vs w) c.deref.ensures.value in
    ap (λ (gs : List Group). times_held gs w + times_in c.sort_values.new.others.items w) c.in_ok-push-2.ensures.items
    ∙ group_count c.args.groups.now.items group c.sort_values.new.alike.items c.sort_values.new.others.items c.args.values.now c.push.new.self.items c.new-others.result.items c.args.entry w is
    (c.in_ok-sort_values.ensures.count w) (c.in_ok-push.ensures.items ∙ ap (λ (vs : List ℕ). vs ++ c.args.entry ∷ []) c.new-alike.ensures.items) c.new-others.ensures.items (c.requires.once w)

pub returns-clause-alike : goal.returns-clause-alike
returns-clause-alike g c =
    let ends : Ends = g.E.Entries.ends c.args.choice.now in
    let group : Group = record { entry = c.args.entry; values = c.in_ok-values.values } in
    subst (λ (gs : List Group). All (IsAlike ends) gs) (sym c.in_ok-push-2.ensures.items)
    (group_alike ends c.args.groups.now.items group c.sort_values.new.alike.items c.requires.alike
    (λ w. c.in_ok-values.ensures.each w ∙ ap (λ (vs : List ℕ). is_in vs w) c.deref.ensures.value) c.in_ok-sort_values.ensures.alike)
