use Rattle.std.proofs.Common.{◌≡◌, ℕ, ◌+◌, ◌<◌, ◌≤◌, ◌^◌, true, map, subst, List, ◌∷◌, ◌++◌, length, sym, ap, ◌∙◌, arith}
use Rattle.std.specs.Prelude.{Vec}
use Rattle.std.specs.Global.{Global}
use Rattle.std.specs.List.{slice_get}
use Rattle.gen_search.specs.declared.choice.Choice.{Choice}
use Rattle.tpl_ast.specs.declared.template.Item.{Item}
use Rattle.gen_search.specs.Search.{copies, of_hart}
use Rattle.tpl_ast.specs.Choices.{all_true, is_fit}
use Rattle.gen_search.specs.Steps.{longest_steps, steps_of_body}
use Rattle.gen_search.specs.Places.{AreMarked, AreOpen, IsOpen, laid, steps_left, untried}
use Rattle.gen_search.specs.Ready.{AreAllowed, AreChoicesReady, parts_of_body}
use Rattle.gen_search.specs.Wholes.{wholes}
use Rattle.gen_search.proofs.Blocks.{way_steps}
use Rattle.gen_search.proofs.Fitting.{entered_fit, way_fit}
use Rattle.gen_search.proofs.Kept.{get_kept, kept_longer, last_whole, marked_last, marked_le, open_last, wholes_length}
use Rattle.gen_search.proofs.Ready.{choices_last, choices_seen, entered_ready, tried_ready, way_ready}
use Rattle.gen_search.proofs.Tries.{way_inside}
use Rattle.gen_search.proofs.Ways.{next_untried, same_laid, same_steps, tried_on, way_taken}
use Rattle.gen_search.proofs.searching.take_way.Goals as goal

pub returns-clause-same : goal.returns-clause-same
returns-clause-same g c = λ turns o.
    let k : ℕ = c.cyclic_way-way.result in
    let d : ℕ × Vec Item Global = c.index-choice-way.result in
    let old = wholes (g.P.PartialTest.earlier c.args.part.now) (g.P.PartialTest.whole c.args.part.now) in
    let new = wholes (g.P.PartialTest.earlier c.take_choice.new.self) (g.P.PartialTest.whole c.take_choice.new.self) in
    let long = wholes_length (g.P.PartialTest.earlier c.args.part.now) (g.P.PartialTest.whole c.args.part.now) in
    let stands = ap (λ (n : ℕ). slice_get old n) c.requires.stands ∙ last_whole (g.P.PartialTest.earlier c.args.part.now) (g.P.PartialTest.whole c.args.part.now) in
    let left : untried c.args.choice ≡ (k, d.1) ∷ untried (tried_on c.args.choice) =
    next_untried c.args.choice k d c.requires.choice.picked c.requires.left c.cyclic_way-way.ensures ∙ ap (λ (w : ℕ × Vec Item Global). (k, w.1) ∷ untried (tried_on c.args.choice)) (sym c.index-choice-way.is) in
    let place : laid c.in_ok-walk.field-0 ≡ laid c.args.choice.place = same_laid c.in_ok-walk.field-0 c.args.choice.place c.in_ok-walk.ensures.hart c.in_ok-walk.ensures.later c.in_ok-walk.ensures.blocks in
    let items : c.deref.result.now ≡ d.1.items = c.deref.ensures.value ∙ ap (λ (w : ℕ × Vec Item Global). w.1.items) (sym c.index-choice-way.is) in
    let entered : laid c.enter.new.self ≡ copies 1 (of_hart c.args.choice.place.hart d.1.items) ++ laid c.args.choice.place =
    c.in_ok-enter.ensures.laid ∙ (λ i. copies 1 (of_hart (c.in_ok-walk.ensures.hart i) (items i)) ++ place i) in
    way_taken g.P.PartialTest.rules turns old new (g.P.PartialTest.whole c.args.part.now) (g.P.PartialTest.whole c.take_choice.new.self) c.args.walk.now.choices.items c.open_choice.new.others.items c.args.choice k d.1 (laid c.enter.new.self) c.args.walk.now.start c.args.walk.now.tally o
    c.in_ok-take_choice.ensures.kept (omega (arith, c.requires.stands, long)) c.requires.marked stands c.in_ok-take_choice.ensures.whole c.in_ok-open_choice.ensures left entered

pub returns-clause-well : goal.returns-clause-well
returns-clause-well g c =
    let k : ℕ = c.cyclic_way-way.result in
    let d : ℕ × Vec Item Global = c.index-choice-way.result in
    let within : k < length c.args.choice.ways.now = way_inside c.args.choice.picked c.args.choice.tried (length c.args.choice.ways.now) k c.requires.choice.picked c.requires.left c.cyclic_way-way.ensures in
    let place : laid c.in_ok-walk.field-0 ≡ laid c.args.choice.place = same_laid c.in_ok-walk.field-0 c.args.choice.place c.in_ok-walk.ensures.hart c.in_ok-walk.ensures.later c.in_ok-walk.ensures.blocks in
    let items : c.deref.result.now ≡ d.1.items = c.deref.ensures.value ∙ ap (λ (w : ℕ × Vec Item Global). w.1.items) (sym c.index-choice-way.is) in
    let entered : laid c.enter.new.self ≡ copies 1 (of_hart c.args.choice.place.hart d.1.items) ++ laid c.args.choice.place =
    c.in_ok-enter.ensures.laid ∙ (λ i. copies 1 (of_hart (c.in_ok-walk.ensures.hart i) (items i)) ++ place i) in
    let body = subst (λ (w : ℕ × Vec Item Global). all_true (map is_fit w.1.items) ≡ true) (sym c.index-choice-way.is) (way_fit c.args.choice.ways.now k d c.requires.choice.ways within) in
    let more = kept_longer (g.P.PartialTest.earlier c.args.part.now) (g.P.PartialTest.whole c.args.part.now) (g.P.PartialTest.earlier c.take_choice.new.self) (g.P.PartialTest.whole c.take_choice.new.self) c.in_ok-take_choice.ensures.kept in
    let is_open : IsOpen (tried_on c.args.choice) = record {
      picked = c.requires.choice.picked;
      tried = omega (arith, c.requires.left);
      few = c.requires.choice.few;
      ways = c.requires.choice.ways;
      place = c.requires.choice.place;
      counted = c.requires.choice.counted;
    } in
    record {
      fit = entered_fit c.args.choice.place.hart 1 d.1.items (laid c.args.choice.place) (laid c.enter.new.self) entered body c.requires.choice.place;
      counted = subst (λ (n : ℕ). n < 2 ^ 32) (sym (λ i. (c.in_ok-enter.ensures.hart ∙ c.in_ok-walk.ensures.hart) i + length ((c.in_ok-enter.ensures.later ∙ c.in_ok-walk.ensures.later) i).now)) c.requires.choice.counted;
      choices = subst AreOpen (sym c.in_ok-open_choice.ensures) (open_last c.args.walk.now.choices.items (tried_on c.args.choice) c.requires.others is_open);
      marked = subst (λ (cs : List Choice). AreMarked c.args.walk.now.start cs (length (g.P.PartialTest.earlier c.take_choice.new.self))) (sym c.in_ok-open_choice.ensures)
          (marked_last c.args.walk.now.start c.args.walk.now.choices.items (tried_on c.args.choice) (length (g.P.PartialTest.earlier c.take_choice.new.self)) c.requires.marked (omega (arith, c.requires.stands, more)));
    }

pub returns-clause-ready : goal.returns-clause-ready
returns-clause-ready g c = λ first allows back choice.
    let can = g.P.PartialTest.can_take in
    let k : ℕ = c.cyclic_way-way.result in
    let d : ℕ × Vec Item Global = c.index-choice-way.result in
    let old = wholes (g.P.PartialTest.earlier c.args.part.now) (g.P.PartialTest.whole c.args.part.now) in
    let new = wholes (g.P.PartialTest.earlier c.take_choice.new.self) (g.P.PartialTest.whole c.take_choice.new.self) in
    let long = wholes_length (g.P.PartialTest.earlier c.args.part.now) (g.P.PartialTest.whole c.args.part.now) in
    let seen : (n : ℕ) → n ≤ c.args.choice.mark → slice_get new n ≡ slice_get old n = λ n le. get_kept old new n c.in_ok-take_choice.ensures.kept (omega (arith, le, long, c.requires.stands)) in
    let low : c.args.walk.now.start ≤ c.args.choice.mark = marked_le c.args.walk.now.start c.args.walk.now.choices.items c.args.choice.mark c.requires.marked in
    let within : k < length c.args.choice.ways.now = way_inside c.args.choice.picked c.args.choice.tried (length c.args.choice.ways.now) k c.requires.choice.picked c.requires.left c.cyclic_way-way.ensures in
    let place : laid c.in_ok-walk.field-0 ≡ laid c.args.choice.place = same_laid c.in_ok-walk.field-0 c.args.choice.place c.in_ok-walk.ensures.hart c.in_ok-walk.ensures.later c.in_ok-walk.ensures.blocks in
    let items : c.deref.result.now ≡ d.1.items = c.deref.ensures.value ∙ ap (λ (w : ℕ × Vec Item Global). w.1.items) (sym c.index-choice-way.is) in
    let entered : laid c.enter.new.self ≡ copies 1 (of_hart c.args.choice.place.hart d.1.items) ++ laid c.args.choice.place =
    c.in_ok-enter.ensures.laid ∙ (λ i. copies 1 (of_hart (c.in_ok-walk.ensures.hart i) (items i)) ++ place i) in
    let body = subst (λ (w : ℕ × Vec Item Global). AreAllowed (can first) c.args.choice.place.hart (parts_of_body w.1.items)) (sym c.index-choice-way.is) (way_ready (can first) c.args.choice.place.hart c.args.choice.ways.now k d choice.ways within) in
    record {
      back = record {
        harts = back.harts;
        start = seen c.args.walk.now.start low ∙ back.start;
        choices = subst (AreChoicesReady can first new) (sym c.in_ok-open_choice.ensures)
            (choices_last _ can first new c.args.walk.now.choices.items (tried_on c.args.choice)
            (choices_seen _ can first old new c.args.walk.now.start c.args.walk.now.choices.items c.args.choice.mark seen c.requires.marked back.choices)
            (tried_ready _ can first old new c.args.choice c.args.choice.mark seen (omega arith) choice));
      };
      place = entered_ready (can first) c.args.choice.place.hart 1 d.1.items (laid c.args.choice.place) (laid c.enter.new.self) entered body choice.place;
      whole = λ hart item can_first. c.in_ok-take_choice.ensures.still hart item (allows hart item can_first);
    }

pub returns-clause-steps : goal.returns-clause-steps
returns-clause-steps g c =
    let k : ℕ = c.cyclic_way-way.result in
    let d : ℕ × Vec Item Global = c.index-choice-way.result in
    let within : k < length c.args.choice.ways.now = way_inside c.args.choice.picked c.args.choice.tried (length c.args.choice.ways.now) k c.requires.choice.picked c.requires.left c.cyclic_way-way.ensures in
    let one : steps_of_body d.1.items ≤ longest_steps c.args.choice.ways.now =
    subst (λ (w : ℕ × Vec Item Global). steps_of_body w.1.items ≤ longest_steps c.args.choice.ways.now) (sym c.index-choice-way.is) (way_steps c.args.choice.ways.now k d within) in
    let body : steps_of_body c.deref.result.now ≡ steps_of_body d.1.items = ap steps_of_body (c.deref.ensures.value ∙ ap (λ (w : ℕ × Vec Item Global). w.1.items) (sym c.index-choice-way.is)) in
    let place : steps_left c.in_ok-walk.field-0 ≡ steps_left c.args.choice.place = same_steps c.in_ok-walk.field-0 c.args.choice.place c.in_ok-walk.ensures.later c.in_ok-walk.ensures.blocks in
    omega (arith, one, body, place, c.in_ok-enter.ensures.steps)

pub returns-clause-first : goal.returns-clause-first
returns-clause-first g c =
    get_kept (wholes (g.P.PartialTest.earlier c.args.part.now) (g.P.PartialTest.whole c.args.part.now)) (wholes (g.P.PartialTest.earlier c.take_choice.new.self) (g.P.PartialTest.whole c.take_choice.new.self)) c.args.walk.now.start c.in_ok-take_choice.ensures.kept
    (omega (arith, c.requires.stands, marked_le c.args.walk.now.start c.args.walk.now.choices.items c.args.choice.mark c.requires.marked, wholes_length (g.P.PartialTest.earlier c.args.part.now) (g.P.PartialTest.whole c.args.part.now)))
