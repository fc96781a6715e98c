use Rattle.std.proofs.Common.{[], ◌||◌, Bool, List, Option, ap, subst, sym, ◌∙◌}
use Rattle.dom_set.specs.Elements.{is_in}
use Rattle.fd_prob.specs.declared.relation.Quad.{Quad}
use Rattle.data_ways.specs.declared.way.DataWay.{DataWay}
use Rattle.data_goals.specs.declared.accesses.Accesses.{Accesses}
use Rattle.std.specs.Prelude.{IfSome}
use Rattle.leaf_pose.specs.Extras.{AddsRows, AreAddressRows, in_rows}
use Rattle.leaf_pose.proofs.AddressRows.{both_rows}
use Rattle.leaf_pose.proofs.extras.address_rows.Goals as goal

pub returns : goal.returns
returns c =
    let a : Accesses = c.in-Some.accesses in
    let loads : List Quad = c.in_ok-rows.rows.items in
    let stores : List Quad = c.in_ok-stores.stores.items in
    let all : List Quad = c.put_rows.new.rows.items in
    let from_loads = subst (λ (l : List DataWay). AddsRows (is_in c.in_ok-wanted.wanted) l [] loads) c.deref.ensures.value c.in_ok-rows.ensures in
    let from_stores = subst (λ (l : List DataWay). AddsRows (is_in c.in_ok-wanted.wanted) l [] stores) c.deref-2.ensures.value c.in_ok-stores.ensures in
    subst (λ (o : Option Accesses). IfSome o (AreAddressRows c.args.stand.now c.args.bias.now c.from_vec.result)) (sym c.in-Some.is)
    (subst (λ (l : List Quad). AreAddressRows c.args.stand.now c.args.bias.now l a) (sym c.from_vec.ensures)
    (both_rows c.args.stand.now c.args.bias.now a c.in_ok-all.all c.in_ok-wanted.wanted loads all c.in_ok-all.ensures c.in_ok-wanted.ensures from_loads
    (λ x hx. c.in_ok-put_rows.ensures x hx ∙ ap (λ (b : Bool). in_rows x loads || b) (from_stores x hx))))
