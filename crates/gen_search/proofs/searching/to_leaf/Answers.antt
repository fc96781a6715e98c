use Rattle.std.proofs.Common.{◌≡◌, ℕ, ◌+◌, ◌<◌, ◌≤◌, ◌^◌, List, [], ◌∷◌, length, sym, ap, subst, ◌∙◌, arith}
use Rattle.tpl_ast.specs.declared.template.Item.{Item}
use Rattle.gen_search.specs.Search.{Finished, Walks, finished}
use Rattle.std.specs.List.{slice_get}
use Rattle.tpl_ast.specs.Choices.{are_ways_fit, can_pick}
use Rattle.gen_search.specs.Steps.{longest_steps, steps_of}
use Rattle.gen_search.specs.Places.{laid, steps_left}
use Rattle.gen_search.specs.Internal.Walks.{with_draws}
use Rattle.gen_search.specs.Wholes.{wholes}
use Rattle.gen_search.proofs.Items.{choice_steps, choose_entered, choose_walks, is_a_fault, is_a_leaf, label_walks, next_fit, repeat_entered, repeat_walks, seq_entered, seq_walks}
use Rattle.gen_search.proofs.Kept.{back_kept, get_kept, inside_finished, inside_more, kept_longer, marked_le, marked_up, wholes_length}
use Rattle.gen_search.proofs.Ready.{choose_ready, label_ready, next_ready, repeat_ready, seq_ready, turned_back}
use Rattle.gen_search.proofs.searching.to_leaf.Goals as goal

pub loop-item-preserved-in-Continue-branch-3 : goal.loop-item-preserved-in-Continue-branch-3
loop-item-preserved-in-Continue-branch-3 g c =
    let next : laid c.loop-item.walk.place ≡ (c.next_item.new.self.hart, c.in-Some.item.now) ∷ laid c.next_item.new.self = rw c.in-Some.is at c.in_ok-item.ensures.item in
    let known = c.loop-item.invariant in
    record {
      same = λ turns o goes.
          known.same turns o
          (inside_more g.P.PartialTest.rules turns (wholes (g.P.PartialTest.earlier c.loop-item.part) (g.P.PartialTest.whole c.loop-item.part)) c.loop-item.walk.choices.items _ _
          (λ p walks. seq_walks g.P.PartialTest.rules turns c.next_item.new.self.hart c.in-Some.item.now c.in-Seq.body c.deref.result.now (laid c.loop-item.walk.place) (laid c.next_item.new.self) (laid c.enter.new.self) (g.P.PartialTest.whole c.loop-item.part) c.loop-item.walk.tally p next c.in-Seq.is c.deref.ensures.value c.in_ok-enter-in-Seq.ensures.laid walks)
          o goes);
      well = record {
        fit = seq_entered c.next_item.new.self.hart c.in-Some.item.now c.in-Seq.body c.deref.result.now (laid c.loop-item.walk.place) (laid c.next_item.new.self) (laid c.enter.new.self) next c.in-Seq.is c.deref.ensures.value c.in_ok-enter-in-Seq.ensures.laid known.well.fit;
        counted = subst (λ (n : ℕ). n < 2 ^ 32) (sym (λ i. c.in_ok-enter-in-Seq.ensures.hart i + length (c.in_ok-enter-in-Seq.ensures.later i).now)) c.in_ok-item.ensures.counted;
        choices = known.well.choices;
        marked = known.well.marked;
      };
      ready = λ first start.
          let before = known.ready first start in
          record {
            back = record { harts = before.back.harts; start = before.back.start; choices = before.back.choices };
            place = seq_ready (g.P.PartialTest.can_take first) c.next_item.new.self.hart c.in-Some.item.now c.in-Seq.body c.deref.result.now (laid c.loop-item.walk.place) (laid c.next_item.new.self) (laid c.enter.new.self) next c.in-Seq.is c.deref.ensures.value c.in_ok-enter-in-Seq.ensures.laid before.place;
            whole = before.whole;
          };
      tally = known.tally;
      start = known.start;
      harts = known.harts;
      first = known.first;
      turned = known.turned;
    }

pub loop-item-preserved-in-Continue-branch-4 : goal.loop-item-preserved-in-Continue-branch-4
loop-item-preserved-in-Continue-branch-4 g c =
    let next : laid c.loop-item.walk.place ≡ (c.next_item.new.self.hart, c.in-Some.item.now) ∷ laid c.next_item.new.self = rw c.in-Some.is at c.in_ok-item.ensures.item in
    let known = c.loop-item.invariant in
    record {
      same = λ turns o goes.
          known.same turns o
          (inside_more g.P.PartialTest.rules turns (wholes (g.P.PartialTest.earlier c.loop-item.part) (g.P.PartialTest.whole c.loop-item.part)) c.loop-item.walk.choices.items _ _
          (λ p walks. repeat_walks g.P.PartialTest.rules turns c.next_item.new.self.hart c.in-Repeat.times c.in-Some.item.now c.in-Repeat.body c.deref-in-Repeat.result.now (laid c.loop-item.walk.place) (laid c.next_item.new.self) (laid c.enter-in-Repeat.new.self) (g.P.PartialTest.whole c.loop-item.part) c.loop-item.walk.tally p next c.in-Repeat.is c.deref-in-Repeat.ensures.value c.in_ok-enter-in-Repeat.ensures.laid walks)
          o goes);
      well = record {
        fit = repeat_entered c.next_item.new.self.hart c.in-Repeat.times c.in-Some.item.now c.in-Repeat.body c.deref-in-Repeat.result.now (laid c.loop-item.walk.place) (laid c.next_item.new.self) (laid c.enter-in-Repeat.new.self) next c.in-Repeat.is c.deref-in-Repeat.ensures.value c.in_ok-enter-in-Repeat.ensures.laid known.well.fit;
        counted = subst (λ (n : ℕ). n < 2 ^ 32) (sym (λ i. c.in_ok-enter-in-Repeat.ensures.hart i + length (c.in_ok-enter-in-Repeat.ensures.later i).now)) c.in_ok-item.ensures.counted;
        choices = known.well.choices;
        marked = known.well.marked;
      };
      ready = λ first start.
          let before = known.ready first start in
          record {
            back = record { harts = before.back.harts; start = before.back.start; choices = before.back.choices };
            place = repeat_ready (g.P.PartialTest.can_take first) c.next_item.new.self.hart c.in-Repeat.times c.in-Some.item.now c.in-Repeat.body c.deref-in-Repeat.result.now (laid c.loop-item.walk.place) (laid c.next_item.new.self) (laid c.enter-in-Repeat.new.self) next c.in-Repeat.is c.deref-in-Repeat.ensures.value c.in_ok-enter-in-Repeat.ensures.laid before.place;
            whole = before.whole;
          };
      tally = known.tally;
      start = known.start;
      harts = known.harts;
      first = known.first;
      turned = known.turned;
    }

pub choose-requires-clause-can_pick : goal.choose-requires-clause-can_pick
choose-requires-clause-can_pick g c =
    let next : laid c.loop-item.walk.place ≡ (c.next_item.new.self.hart, c.in-Some.item.now) ∷ laid c.next_item.new.self = rw c.in-Some.is at c.in_ok-item.ensures.item in
    let fits = choose_entered c.next_item.new.self.hart c.in-Choose.line c.in-Some.item.now c.in-Choose.ways (laid c.loop-item.walk.place) (laid c.next_item.new.self) next c.in-Choose.is c.loop-item.invariant.well.fit in
    ap can_pick c.deref-in-Choose.ensures.value ∙ fits.0

pub choose-requires-clause-ways : goal.choose-requires-clause-ways
choose-requires-clause-ways g c =
    let next : laid c.loop-item.walk.place ≡ (c.next_item.new.self.hart, c.in-Some.item.now) ∷ laid c.next_item.new.self = rw c.in-Some.is at c.in_ok-item.ensures.item in
    let fits = choose_entered c.next_item.new.self.hart c.in-Choose.line c.in-Some.item.now c.in-Choose.ways (laid c.loop-item.walk.place) (laid c.next_item.new.self) next c.in-Choose.is c.loop-item.invariant.well.fit in
    ap are_ways_fit c.deref-in-Choose.ensures.value ∙ fits.1

pub loop-item-smaller-in-Continue-branch-5 : goal.loop-item-smaller-in-Continue-branch-5
loop-item-smaller-in-Continue-branch-5 g c =
    let fewer : steps_of c.in-Some.item.now + steps_left c.next_item.new.self ≤ steps_left c.loop-item.walk.place = rw c.in-Some.is at c.in_ok-item.ensures.fewer in
    let item : steps_of c.in-Some.item.now ≡ 3 + longest_steps c.in-Choose.ways.items = choice_steps c.in-Choose.line c.in-Some.item.now c.in-Choose.ways c.in-Choose.is in
    let list : longest_steps c.deref-in-Choose.result.now ≡ longest_steps c.in-Choose.ways.items = ap longest_steps c.deref-in-Choose.ensures.value in
    omega (arith, fewer, item, list, c.in_ok-choose-in-Choose.ensures.steps)

pub loop-item-preserved-in-Continue-branch-5 : goal.loop-item-preserved-in-Continue-branch-5
loop-item-preserved-in-Continue-branch-5 g c =
    let next : laid c.loop-item.walk.place ≡ (c.next_item.new.self.hart, c.in-Some.item.now) ∷ laid c.next_item.new.self = rw c.in-Some.is at c.in_ok-item.ensures.item in
    let known = c.loop-item.invariant in
    record {
      same = λ turns o goes.
          known.same turns o
          (inside_more g.P.PartialTest.rules turns (wholes (g.P.PartialTest.earlier c.loop-item.part) (g.P.PartialTest.whole c.loop-item.part)) c.loop-item.walk.choices.items _ _
          (λ p tries. choose_walks g.P.PartialTest.rules turns c.next_item.new.self.hart c.in-Choose.line c.in-Some.item.now c.in-Choose.ways c.deref-in-Choose.result.now (laid c.loop-item.walk.place) (laid c.next_item.new.self) (g.P.PartialTest.whole c.loop-item.part) c.loop-item.walk.tally p next c.in-Choose.is c.deref-in-Choose.ensures.value tries)
          o (c.in_ok-choose-in-Choose.ensures.same turns o goes));
      well = c.in_ok-choose-in-Choose.ensures.well;
      ready = λ first start.
          let before = known.ready first start in
          c.in_ok-choose-in-Choose.ensures.ready first
          (record {
            back = record { harts = before.back.harts; start = before.back.start; choices = before.back.choices };
            place = (next_ready (g.P.PartialTest.can_take first) c.next_item.new.self.hart c.in-Some.item.now (laid c.loop-item.walk.place) (laid c.next_item.new.self) next before.place).1;
            whole = before.whole;
          })
          (choose_ready (g.P.PartialTest.can_take first) c.next_item.new.self.hart c.in-Choose.line c.in-Some.item.now c.in-Choose.ways c.deref-in-Choose.result.now (laid c.loop-item.walk.place) (laid c.next_item.new.self) next c.in-Choose.is c.deref-in-Choose.ensures.value before.place);
      tally = c.in_ok-choose-in-Choose.ensures.tally ∙ ap (with_draws c.choose.new.walk.tally.draws) known.tally;
      start = c.in_ok-choose-in-Choose.ensures.start ∙ known.start;
      harts = c.in_ok-choose-in-Choose.ensures.harts ∙ known.harts;
      first = ap (λ (n : ℕ). slice_get (wholes (g.P.PartialTest.earlier c.choose.new.part) (g.P.PartialTest.whole c.choose.new.part)) n) (sym known.start)
          ∙ c.in_ok-choose-in-Choose.ensures.first
          ∙ ap (λ (n : ℕ). slice_get (wholes (g.P.PartialTest.earlier c.loop-item.part) (g.P.PartialTest.whole c.loop-item.part)) n) known.start
          ∙ known.first;
      turned = c.in_ok-choose-in-Choose.ensures.turned ∙ known.turned;
    }

pub loop-item-preserved : goal.loop-item-preserved
loop-item-preserved g c =
    let next : laid c.loop-item.walk.place ≡ (c.next_item.new.self.hart, c.in-Some.item.now) ∷ laid c.next_item.new.self = rw c.in-Some.is at c.in_ok-item.ensures.item in
    let known = c.loop-item.invariant in
    let old = wholes (g.P.PartialTest.earlier c.loop-item.part) (g.P.PartialTest.whole c.loop-item.part) in
    let new = wholes (g.P.PartialTest.earlier c.bind_label.new.self) (g.P.PartialTest.whole c.bind_label.new.self) in
    let long = wholes_length (g.P.PartialTest.earlier c.loop-item.part) (g.P.PartialTest.whole c.loop-item.part) in
    let within : length (g.P.PartialTest.earlier c.loop-item.part) < length old = omega (arith, long) in
    let more = kept_longer (g.P.PartialTest.earlier c.loop-item.part) (g.P.PartialTest.whole c.loop-item.part) (g.P.PartialTest.earlier c.bind_label.new.self) (g.P.PartialTest.whole c.bind_label.new.self) c.in_ok-bind_label-in-Label.ensures.kept in
    let low : c.loop-item.walk.start ≤ length (g.P.PartialTest.earlier c.loop-item.part) = marked_le c.loop-item.walk.start c.loop-item.walk.choices.items (length (g.P.PartialTest.earlier c.loop-item.part)) known.well.marked in
    record {
      same = λ turns o goes.
          known.same turns o
          (inside_more g.P.PartialTest.rules turns old c.loop-item.walk.choices.items _ _
          (λ p walks. label_walks g.P.PartialTest.rules turns c.next_item.new.self.hart c.in-Label.name c.in-Some.item.now (laid c.loop-item.walk.place) (laid c.next_item.new.self) (g.P.PartialTest.whole c.loop-item.part) (g.P.PartialTest.whole c.bind_label.new.self) c.loop-item.walk.tally p next c.in-Label.is c.in_ok-bind_label-in-Label.ensures.whole walks)
          o
          (back_kept g.P.PartialTest.rules turns old new c.loop-item.walk.start c.loop-item.walk.choices.items (length (g.P.PartialTest.earlier c.loop-item.part)) _ o c.in_ok-bind_label-in-Label.ensures.kept within known.well.marked goes));
      well = record {
        fit = (next_fit c.next_item.new.self.hart c.in-Some.item.now (laid c.loop-item.walk.place) (laid c.next_item.new.self) next known.well.fit).1;
        counted = c.in_ok-item.ensures.counted;
        choices = known.well.choices;
        marked = marked_up c.loop-item.walk.start c.loop-item.walk.choices.items (length (g.P.PartialTest.earlier c.loop-item.part)) (length (g.P.PartialTest.earlier c.bind_label.new.self)) known.well.marked more;
      };
      ready = λ first start.
          let before = known.ready first start in
          record {
            back = turned_back _ g.P.PartialTest.can_take first (g.P.PartialTest.earlier c.loop-item.part) (g.P.PartialTest.whole c.loop-item.part) (g.P.PartialTest.earlier c.bind_label.new.self) (g.P.PartialTest.whole c.bind_label.new.self) c.loop-item.walk _ c.loop-item.walk.tally c.in_ok-bind_label-in-Label.ensures.kept known.well.marked before.back;
            place = (next_ready (g.P.PartialTest.can_take first) c.next_item.new.self.hart c.in-Some.item.now (laid c.loop-item.walk.place) (laid c.next_item.new.self) next before.place).1;
            whole = λ hart item can_first. c.in_ok-bind_label-in-Label.ensures.still hart item (before.whole hart item can_first);
          };
      tally = known.tally;
      start = known.start;
      harts = known.harts;
      first = ap (λ (n : ℕ). slice_get new n) (sym known.start)
          ∙ get_kept old new c.loop-item.walk.start c.in_ok-bind_label-in-Label.ensures.kept (omega (arith, low, within))
          ∙ ap (λ (n : ℕ). slice_get old n) known.start
          ∙ known.first;
      turned = c.in_ok-bind_label-in-Label.ensures.turned ∙ known.turned;
    }

pub returns-clause-done : goal.returns-clause-done
returns-clause-done g c = λ turns.
    let none : laid c.loop-item.walk.place ≡ [] = rw c.in_default.is at c.in_ok-item.ensures.item in
    c.loop-item.invariant.same turns (Finished (g.P.PartialTest.whole c.loop-item.part) c.loop-item.walk.tally)
    (inside_finished g.P.PartialTest.rules turns (wholes (g.P.PartialTest.earlier c.loop-item.part) (g.P.PartialTest.whole c.loop-item.part)) c.loop-item.walk.choices.items _ (g.P.PartialTest.whole c.loop-item.part) c.loop-item.walk.tally
    (subst (λ (todo : List (ℕ × Item)). Walks g.P.PartialTest.rules turns todo (g.P.PartialTest.whole c.loop-item.part) c.loop-item.walk.tally (Finished (g.P.PartialTest.whole c.loop-item.part) c.loop-item.walk.tally)) (sym none) finished))

pub bind_label-requires : goal.bind_label-requires
bind_label-requires g c =
    let next : laid c.loop-item.walk.place ≡ (c.next_item.new.self.hart, c.in-Some.item.now) ∷ laid c.next_item.new.self = rw c.in-Some.is at c.in_ok-item.ensures.item in
    let first = c.requires.ready.0 in
    let before = c.loop-item.invariant.ready first c.requires.ready.1 in
    before.whole c.next_item.new.self.hart _ (label_ready (g.P.PartialTest.can_take first) c.next_item.new.self.hart c.in-Label.name c.in-Some.item.now (laid c.loop-item.walk.place) (laid c.next_item.new.self) next c.in-Label.is before.place)

pub returns-in-Leaf-clause-leaf : goal.returns-in-Leaf-clause-leaf
returns-in-Leaf-clause-leaf g c = is_a_leaf c.in-Leaf.line c.in-Some.item.now c.in-Leaf.wishes c.in-Leaf.is

pub returns-in-FetchFault-clause-leaf : goal.returns-in-FetchFault-clause-leaf
returns-in-FetchFault-clause-leaf g c = is_a_fault c.in-FetchFault.line c.in-Some.item.now c.in-FetchFault.causes c.in-FetchFault.is
