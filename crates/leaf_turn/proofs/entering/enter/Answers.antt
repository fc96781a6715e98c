use Rattle.std.proofs.Common.{◌≡◌, ℕ, ◌-◌, sym, ap, ◌∙◌, subst, arith, if◌then◌else◌, eqb}
use Rattle.rv_script.specs.declared.place.Place.TheVariants.{Word}
use Rattle.sv_walk.specs.Clauses.{ended}
use Rattle.fd_prob.specs.declared.slot.Slot.TheVariants as slots
use Rattle.part_machine.specs.Whole.{Bare, Whole}
use Rattle.part_state.specs.Meaning.{place_given}
use Rattle.part_state.specs.State.{here}
use Rattle.leaf_link.specs.Answers.{values_in}
use Rattle.leaf_link.specs.FetchPlacing.{entry_value}
use Rattle.leaf_turn.specs.Entering.{root_at}
use Rattle.leaf_turn.proofs.Fetches.{AreEntering, begun, entered_at, entering_on, no_end, walk_says}
use Rattle.leaf_turn.proofs.Keeping.{kept_more, kept_same}
use Rattle.leaf_turn.proofs.entering.enter.Goals as goal

pub loop-addr-init : goal.loop-addr-init
loop-addr-init c = record { going = begun c.args.hart (values_in c.args.x.now) (here c.args.part.now) c.entries_are_next.ensures.short; kept = kept_same c.args.part.now }

pub overflow_sub-left : goal.overflow_sub-left
overflow_sub-left c =
    let says = walk_says c.args.hart (here c.loop-addr.part) _ c.fetch_view-view.result c.hart.result.now.pc c.walk.result c.memory.ensures c.fetch_view-view.ensures (ap (λ (b : Bare). b.pc) c.hart.ensures) c.walk.ensures.answer in
    let on = entering_on c.args.hart (values_in c.args.x.now) c.loop-addr.left (here c.args.part.now) (here c.loop-addr.part) (Word c.in-Missing.addr) c.entries_are_next.ensures.next c.places_are_next.ensures.appended
    c.is_test.ensures c.requires.hart c.requires.enterable c.loop-addr.invariant.going (sym says ∙ ap (ended c.walk.result.ptes) c.in-Missing.is) in
    let some = on.some in
    omega (arith, some)

pub loop-addr-smaller : goal.loop-addr-smaller
loop-addr-smaller c =
    let says = walk_says c.args.hart (here c.loop-addr.part) _ c.fetch_view-view.result c.hart.result.now.pc c.walk.result c.memory.ensures c.fetch_view-view.ensures (ap (λ (b : Bare). b.pc) c.hart.ensures) c.walk.ensures.answer in
    let on = entering_on c.args.hart (values_in c.args.x.now) c.loop-addr.left (here c.args.part.now) (here c.loop-addr.part) (Word c.in-Missing.addr) c.entries_are_next.ensures.next c.places_are_next.ensures.appended
    c.is_test.ensures c.requires.hart c.requires.enterable c.loop-addr.invariant.going (sym says ∙ ap (ended c.walk.result.ptes) c.in-Missing.is) in
    let some = on.some in
    omega (arith, some)

pub loop-addr-preserved : goal.loop-addr-preserved
loop-addr-preserved c =
    let says = walk_says c.args.hart (here c.loop-addr.part) _ c.fetch_view-view.result c.hart.result.now.pc c.walk.result c.memory.ensures c.fetch_view-view.ensures (ap (λ (b : Bare). b.pc) c.hart.ensures) c.walk.ensures.answer in
    let on = entering_on c.args.hart (values_in c.args.x.now) c.loop-addr.left (here c.args.part.now) (here c.loop-addr.part) (Word c.in-Missing.addr) c.entries_are_next.ensures.next c.places_are_next.ensures.appended
    c.is_test.ensures c.requires.hart c.requires.enterable c.loop-addr.invariant.going (sym says ∙ ap (ended c.walk.result.ptes) c.in-Missing.is) in
    let same = subst (λ (v : ℕ). AreEntering c.args.hart (values_in c.args.x.now) (c.loop-addr.left - 1) (here c.args.part.now) (place_given c.args.hart (Word c.in-Missing.addr) v (here c.loop-addr.part))) (sym (value_is c)) on.going in
    record {
      going = subst (λ (w : Whole). AreEntering c.args.hart (values_in c.args.x.now) (c.loop-addr.left - 1) (here c.args.part.now) w) (sym c.in_ok-start_place-in-Missing.ensures.now) same;
      kept = kept_more c.args.part.now c.loop-addr.part c.start_place.new.self c.loop-addr.invariant.kept c.in_ok-start_place-in-Missing.ensures.earlier;
    }
  where
    value_is : (c : goal.In_ok-start_place-in-Missing) → c.entry_value.result ≡ entry_value (values_in c.args.x.now) (root_at c.args.hart (here c.args.part.now)) (Word c.in-Missing.addr)
    value_is c = c.entry_value.ensures ∙ ap (λ (n : ℕ). if eqb c.in-Missing.addr n then values_in c.args.x.now slots.FirstPte else values_in c.args.x.now slots.SecondPte) c.root_of-root.ensures

pub returns-in-Pa-clause-entered : goal.returns-in-Pa-clause-entered
returns-in-Pa-clause-entered c =
    let says = walk_says c.args.hart (here c.loop-addr.part) _ c.fetch_view-view.result c.hart.result.now.pc c.walk.result c.memory.ensures c.fetch_view-view.ensures (ap (λ (b : Bare). b.pc) c.hart.ensures) c.walk.ensures.answer in
    entered_at c.args.hart (values_in c.args.x.now) c.loop-addr.left (here c.args.part.now) (here c.loop-addr.part) _ c.in-Pa.pa c.entries_are_next.ensures.next c.given_places_are_known.ensures.fixed c.given_places_are_known.ensures.others
    c.is_test.ensures c.requires.hart c.requires.enterable c.loop-addr.invariant.going (sym says ∙ ap (ended c.walk.result.ptes) c.in-Pa.is)

pub unreachable-requires : goal.unreachable-requires
unreachable-requires c =
    let says = walk_says c.args.hart (here c.loop-addr.part) _ c.fetch_view-view.result c.hart.result.now.pc c.walk.result c.memory.ensures c.fetch_view-view.ensures (ap (λ (b : Bare). b.pc) c.hart.ensures) c.walk.ensures.answer in
    no_end c.args.hart (values_in c.args.x.now) c.loop-addr.left (here c.args.part.now) (here c.loop-addr.part) c.walk.result.ptes c.walk.result.outcome c.entries_are_next.ensures.next c.is_test.ensures c.requires.hart c.requires.enterable c.loop-addr.invariant.going says c.in-Fault.is
