use Rattle.std.proofs.Common.{ℕ, ◌-◌, ◌∙◌, Option, ap, subst, sym, arith}
use Rattle.part_machine.specs.Whole.{Whole}
use Rattle.part_state.specs.Meaning.{CanStart, place_given}
use Rattle.part_state.specs.State.{here}
use Rattle.leaf_link.specs.Answers.{values_in}
use Rattle.leaf_turn.specs.declared.taking.DataWalk.{DataWalk}
use Rattle.leaf_turn.specs.Answers.{started_with}
use Rattle.leaf_turn.proofs.Giving.{AreGoing, all_are_given, begun, going_on, harts_stay, lacks_none, not_missing}
use Rattle.leaf_turn.proofs.Keeping.{kept_more, kept_same}
use Rattle.leaf_turn.proofs.taking.give.Goals as goal

pub loop-place-init : goal.loop-place-init
loop-place-init c = record { going = begun c.args.hart (values_in c.args.x.now) (here c.args.part.now) c.places_are_next.ensures.short; kept = kept_same c.args.part.now }

pub probe-requires : goal.probe-requires
probe-requires c =
    let g = c.loop-place.invariant.going in
    harts_stay c.args.hart (values_in c.args.x.now) (here c.args.part.now) (here c.loop-place.part) c.given_places_are_known.ensures.others g.places g.is c.requires.hart

pub started_with-requires : goal.started_with-requires
started_with-requires c = c.requires.playable.instruction

pub start_place-requires-clause-hart : goal.start_place-requires-clause-hart
start_place-requires-clause-hart c =
    let g = c.loop-place.invariant.going in
    harts_stay c.args.hart (values_in c.args.x.now) (here c.args.part.now) (here c.loop-place.part) c.given_places_are_known.ensures.others g.places g.is c.requires.hart

pub start_place-requires-clause-start : goal.start_place-requires-clause-start
start_place-requires-clause-start c =
    let on = going_on c.args.hart c.args.fetch (values_in c.args.x.now) c.loop-place.left (here c.args.part.now) (here c.loop-place.part) c.in-Missing.place c.places_are_next.ensures.next c.places_are_next.ensures.appended
    c.is_test.ensures c.requires.hart c.requires.playable c.loop-place.invariant.going c.in-Missing.ensures in
    let is = c.started_with.ensures ∙ ap (λ (o : Option DataWalk). started_with o (values_in c.args.x.now) c.args.fetch c.in-Missing.place) c.walk_of-walk.ensures in
    subst (λ (v : ℕ). CanStart c.args.hart c.in-Missing.place v (here c.loop-place.part)) (sym is) on.can

pub overflow_sub-left : goal.overflow_sub-left
overflow_sub-left c =
    let on = going_on c.args.hart c.args.fetch (values_in c.args.x.now) c.loop-place.left (here c.args.part.now) (here c.loop-place.part) c.in-Missing.place c.places_are_next.ensures.next c.places_are_next.ensures.appended
    c.is_test.ensures c.requires.hart c.requires.playable c.loop-place.invariant.going c.in-Missing.ensures in
    let some = on.some in
    omega (arith, some)

pub loop-place-smaller : goal.loop-place-smaller
loop-place-smaller c =
    let on = going_on c.args.hart c.args.fetch (values_in c.args.x.now) c.loop-place.left (here c.args.part.now) (here c.loop-place.part) c.in-Missing.place c.places_are_next.ensures.next c.places_are_next.ensures.appended
    c.is_test.ensures c.requires.hart c.requires.playable c.loop-place.invariant.going c.in-Missing.ensures in
    let some = on.some in
    omega (arith, some)

pub loop-place-preserved : goal.loop-place-preserved
loop-place-preserved c =
    let on = going_on c.args.hart c.args.fetch (values_in c.args.x.now) c.loop-place.left (here c.args.part.now) (here c.loop-place.part) c.in-Missing.place c.places_are_next.ensures.next c.places_are_next.ensures.appended
    c.is_test.ensures c.requires.hart c.requires.playable c.loop-place.invariant.going c.in-Missing.ensures in
    let is = c.started_with.ensures ∙ ap (λ (o : Option DataWalk). started_with o (values_in c.args.x.now) c.args.fetch c.in-Missing.place) c.walk_of-walk.ensures in
    let same = subst (λ (v : ℕ). AreGoing c.args.hart (values_in c.args.x.now) (c.loop-place.left - 1) (here c.args.part.now) (place_given c.args.hart c.in-Missing.place v (here c.loop-place.part))) (sym is) on.going in
    record {
      going = subst (λ (w : Whole). AreGoing c.args.hart (values_in c.args.x.now) (c.loop-place.left - 1) (here c.args.part.now) w) (sym c.in_ok-start_place-in-Missing.ensures.now) same;
      kept = kept_more c.args.part.now c.loop-place.part c.start_place.new.self c.loop-place.invariant.kept c.in_ok-start_place-in-Missing.ensures.earlier;
    }

pub returns-in-Ready : goal.returns-in-Ready
returns-in-Ready c =
    record {
      given = all_are_given c.args.hart c.args.fetch (values_in c.args.x.now) c.loop-place.left (here c.args.part.now) (here c.loop-place.part) c.places_are_next.ensures.next c.is_test.ensures c.requires.hart c.requires.playable c.loop-place.invariant.going
          (lacks_none c.args.hart (here c.loop-place.part) c.probe.result c.probe.ensures (not_missing c.probe.result c.in-Ready.is));
      kept = c.loop-place.invariant.kept;
    }
