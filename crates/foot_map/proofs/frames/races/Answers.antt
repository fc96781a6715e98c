use Rattle.std.proofs.Common.{◌+◌, ◌*◌, ◌⊎◌, ◌∷◌, List, inl, inr, refl, sym, ◌∙◌, subst}
use Rattle.std.proofs.lemmas.Bool.{both_ways, false_from_ne_true}
use Rattle.foot_map.specs.Races.{is_blocked}
use Rattle.foot_map.specs.Pages.{kept}
use Rattle.foot_map.proofs.Entries.{Entry, Among, IsFine, among_get, race_there, no_race}
use Rattle.foot_map.proofs.frames.races.Goals as goal

pub loop-place-init : goal.loop-place-init
loop-place-init c = record {
  done = λ e h. inl h;
  ahead = λ e h. subst (λ (es : List Entry). Among e es) c.into_iter-place-iterator.ensures.into_iter_gives.0 h;
}

-- the page at hand is one of the map's
among : (c : goal.After-blocked-arg-1) → Among (c.in-Some.place.now, c.in-Some.page.now) c.args.pages.now.entries
among c =
    let e : Entry = (c.in-Some.place.now, c.in-Some.page.now) in
    c.loop-place.invariant.ahead e (subst (λ (es : List Entry). Among e es) (sym c.in-Some.ensures.steps) (inl refl))

pub blocked-requires-clause-frame : goal.blocked-requires-clause-frame
blocked-requires-clause-frame c =
    (c.requires c.in-Some.place.now c.in-Some.page.now (among_get c.args.pages.now.entries (c.in-Some.place.now, c.in-Some.page.now) c.into_iter-place-iterator.ensures.into_iter_gives.5 (among c))).0

pub returns-then-any_common : goal.returns-then-any_common
returns-then-any_common c =
    let e : Entry = (c.in-Some.place.now, c.in-Some.page.now) in
    let there : Among e c.args.pages.now.entries =
    c.loop-place.invariant.ahead e (subst (λ (es : List Entry). Among e es) (sym c.in-Some.ensures.steps) (inl refl)) in
    let found = c.if-any_common.ensures.below refl in
    sym (race_there c.args.pages.now c.into_iter-place-iterator.ensures.into_iter_gives.5 c.requires e found.0 found.1 there found.3 (sym (c.blocked.ensures found.0 found.1) ∙ found.2))

fine : (c : goal.Else-any_common) → IsFine c.args.pages.now (c.in-Some.place.now, c.in-Some.page.now)
fine c x lt on = false_from_ne_true (is_blocked (kept c.args.pages.now) c.in-Some.place.now.hart c.in-Some.place.now.role (c.in-Some.place.now.byte * 4096 + x)) (λ blocked.
    both_ways c.any_common.result c.if-any_common.false (c.any_common.ensures.common.1 (x, c.blocked.ensures x lt ∙ blocked, on)))

pub loop-place-preserved : goal.loop-place-preserved
loop-place-preserved c = record {
  done = λ e h. elim (c.loop-place.invariant.done e h) [
    | inl there ↦ step e (subst (λ (es : List Entry). Among e es) c.in-Some.ensures.steps there)
    | inr done ↦ inr done
  ];
  ahead = λ e h. c.loop-place.invariant.ahead e (subst (λ (es : List Entry). Among e es) (sym c.in-Some.ensures.steps) (inr h));
} where
  step : (e : Entry) → Among e ((c.in-Some.place.now, c.in-Some.page.now) ∷ c.next.new.self) → Among e c.next.new.self ⊎ IsFine c.args.pages.now e
  step e (inl here) = inr (subst (λ (u : Entry). IsFine c.args.pages.now u) here (fine c))
  step e (inr there) = inl there

pub returns : goal.returns
returns c = sym (no_race c.args.pages.now (λ e h.
    each e (c.loop-place.invariant.done e (subst (λ (es : List Entry). Among e es) (sym c.into_iter-place-iterator.ensures.into_iter_gives.0) h)))) where
      each : (e : Entry) → Among e c.loop-place.place-iterator ⊎ IsFine c.args.pages.now e → IsFine c.args.pages.now e
      each e (inl there) = absurd (subst (λ (es : List Entry). Among e es) c.in-None.ensures.steps.0 there)
      each e (inr done) = done
