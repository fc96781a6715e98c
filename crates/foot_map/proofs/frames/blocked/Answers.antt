use Rattle.std.proofs.Common.{◌||◌, List, Bool, eqb, sym, ap, ◌∙◌}
use Rattle.std.specs.List.{list_any}
use Rattle.lane_bits.specs.Pages.{has as has_offset}
use Rattle.foot_map.specs.Races.{breaks}
use Rattle.foot_map.proofs.Orders.{triple}
use Rattle.foot_map.proofs.Entries.{Entry, is_clashing, blocked_is, joined_in, left_out, or_nothing}
use Rattle.foot_map.proofs.frames.blocked.Goals as goal

pub loop-place-init : goal.loop-place-init
loop-place-init c x = ap (λ (b : Bool). b || list_any (is_clashing c.args.hart c.args.role x) c.into_iter-place-iterator.result) (c.new-blocked.ensures x)

pub loop-place-preserved-then-breaks : goal.loop-place-preserved-then-breaks
loop-place-preserved-then-breaks c x =
    let p = is_clashing c.args.hart c.args.role x in
    joined_in (has_offset c.or-blocked.result x) (has_offset c.loop-place.blocked x) (has_offset c.in-Some.page.now x)
    (breaks (eqb c.in-Some.place.now.hart c.args.hart) c.in-Some.place.now.role c.args.role) (list_any p c.next.new.self)
    (c.or-blocked.ensures x) (sym c.breaks.ensures ∙ c.if-breaks.true)
    ∙ ap (λ (es : List Entry). has_offset c.loop-place.blocked x || list_any p es) (sym c.in-Some.ensures.steps)
    ∙ c.loop-place.invariant x

pub loop-place-preserved : goal.loop-place-preserved
loop-place-preserved c x =
    let p = is_clashing c.args.hart c.args.role x in
    left_out (has_offset c.loop-place.blocked x) (has_offset c.in-Some.page.now x)
    (breaks (eqb c.in-Some.place.now.hart c.args.hart) c.in-Some.place.now.role c.args.role) (list_any p c.next.new.self)
    (sym c.breaks.ensures ∙ c.if-breaks.false)
    ∙ ap (λ (es : List Entry). has_offset c.loop-place.blocked x || list_any p es) (sym c.in-Some.ensures.steps)
    ∙ c.loop-place.invariant x

pub returns : goal.returns
returns c x lt =
    let p = is_clashing c.args.hart c.args.role x in
    or_nothing (has_offset c.loop-place.blocked x)
    ∙ ap (λ (es : List Entry). has_offset c.loop-place.blocked x || list_any p es) (sym c.in-None.ensures.steps.0)
    ∙ c.loop-place.invariant x
    ∙ ap (list_any p) (c.into_iter-place-iterator.ensures.into_iter_gives ∙ c.range-place-items.ensures.between tt)
    ∙ blocked_is c.args.pages.now c.start_of.result c.start_of-2.result c.args.frame c.args.hart x c.args.role c.range-place-items.ensures.ordered c.requires.within
    (λ i. triple (c.start_of.ensures.byte i) (c.start_of.ensures.hart i) (c.start_of.ensures.role i))
    (λ i. triple (c.start_of-2.ensures.byte i) (c.start_of-2.ensures.hart i) (c.start_of-2.ensures.role i)) lt
