use Rattle.std.proofs.Common.{◌≡◌, ◌&&◌, ◌%◌, Bool, Some, true, false, cond, eqb, refl, sym, ap, ◌∙◌}
use Rattle.std.specs.List.{find}
use Rattle.std.proofs.lemmas.Bool.{and_from}
use Rattle.foot_map.specs.Races.{breaks}
use Rattle.lane_bits.specs.Pages.{has as has_offset}
use Rattle.foot_map.proofs.Orders.{triple}
use Rattle.foot_map.proofs.Entries.{Entry, is_clashing, clash_found, clash_least, no_clash}
use Rattle.foot_map.proofs.frames.first_on.Goals as goal
use Rattle.foot_map.proofs.frames.first_on.Goals.{else-breaks-via-then-breaks+else-get, else-breaks-via-else-breaks}

-- the first of all on the frame
first : (c : goal.After-result-1) → find (is_clashing c.args.hart c.args.role (c.args.byte % 4096)) c.range-place-items.result ≡ Some (c.in-Some.place.now, c.in-Some.page.now)
first c =
    let p = is_clashing c.args.hart c.args.role (c.args.byte % 4096) in
    let e : Entry = (c.in-Some.place.now, c.in-Some.page.now) in
    let passes : p e ≡ true = and_from (breaks (eqb e.0.hart c.args.hart) e.0.role c.args.role) (has_offset e.1 (c.args.byte % 4096)) (sym c.breaks.ensures ∙ c.if-breaks.true) (sym c.get.ensures ∙ c.if-get.true) in
    ap (find p) (sym c.into_iter-place-iterator.ensures.into_iter_gives)
    ∙ sym c.loop-place.invariant
    ∙ ap (find p) c.in-Some.ensures.steps
    ∙ ap (λ (b : Bool). cond b (Some e) (find p c.next.new.self)) passes

pub returns-then-get-clause-found : goal.returns-then-get-clause-found
returns-then-get-clause-found c =
    clash_found c.args.pages.now c.start_of.result c.start_of-2.result c.args.byte c.args.hart c.args.role (c.in-Some.place.now, c.in-Some.page.now) c.range-place-items.ensures.ordered c.requires
    (λ i. triple (c.start_of.ensures.byte i) (c.start_of.ensures.hart i) (c.start_of.ensures.role i))
    (λ i. triple (c.start_of-2.ensures.byte i) (c.start_of-2.ensures.hart i) (c.start_of-2.ensures.role i))
    (ap (find (is_clashing c.args.hart c.args.role (c.args.byte % 4096))) (sym (c.range-place-items.ensures.between tt)) ∙ first c)

pub returns-then-get-clause-least : goal.returns-then-get-clause-least
returns-then-get-clause-least c =
    clash_least c.args.pages.now c.start_of.result c.start_of-2.result c.args.byte c.args.hart c.args.role (c.in-Some.place.now, c.in-Some.page.now) c.range-place-items.ensures.ordered
    (λ i. triple (c.start_of.ensures.byte i) (c.start_of.ensures.hart i) (c.start_of.ensures.role i))
    (λ i. triple (c.start_of-2.ensures.byte i) (c.start_of-2.ensures.hart i) (c.start_of-2.ensures.role i))
    (ap (find (is_clashing c.args.hart c.args.role (c.args.byte % 4096))) (sym (c.range-place-items.ensures.between tt)) ∙ first c)

fails : (c : goal.Joined-else-breaks) → is_clashing c.args.hart c.args.role (c.args.byte % 4096) (c.in-Some.place.now, c.in-Some.page.now) ≡ false
fails c = elim c.else-breaks.branch [
  | else-breaks-via-then-breaks+else-get w ↦ and_second (breaks (eqb c.in-Some.place.now.hart c.args.hart) c.in-Some.place.now.role c.args.role) (has_offset c.in-Some.page.now (c.args.byte % 4096)) (sym w.get.ensures ∙ w.if-get.false)
  | else-breaks-via-else-breaks w ↦ ap (λ (b : Bool). b && has_offset c.in-Some.page.now (c.args.byte % 4096)) (sym c.breaks.ensures ∙ w.if-breaks.false)
] where
  and_second : (a b : Bool) → b ≡ false → (a && b) ≡ false
  and_second true b h = h
  and_second false b h = refl

pub loop-place-preserved : goal.loop-place-preserved
loop-place-preserved c =
    let p = is_clashing c.args.hart c.args.role (c.args.byte % 4096) in
    let e : Entry = (c.in-Some.place.now, c.in-Some.page.now) in
    ap (λ (b : Bool). cond b (Some e) (find p c.next.new.self)) (sym (fails c))
    ∙ ap (find p) (sym c.in-Some.ensures.steps)
    ∙ c.loop-place.invariant

pub returns-clause-none : goal.returns-clause-none
returns-clause-none c =
    let p = is_clashing c.args.hart c.args.role (c.args.byte % 4096) in
    no_clash c.args.pages.now c.start_of.result c.start_of-2.result c.args.byte c.args.hart c.args.role
    (λ i. triple (c.start_of.ensures.byte i) (c.start_of.ensures.hart i) (c.start_of.ensures.role i))
    (λ i. triple (c.start_of-2.ensures.byte i) (c.start_of-2.ensures.hart i) (c.start_of-2.ensures.role i))
    (ap (find p) (sym (c.range-place-items.ensures.between tt) ∙ sym c.into_iter-place-iterator.ensures.into_iter_gives)
    ∙ sym c.loop-place.invariant
    ∙ ap (find p) c.in-None.ensures.steps.0)
