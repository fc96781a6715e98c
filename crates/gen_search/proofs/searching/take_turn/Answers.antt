use Rattle.std.proofs.Common.{◌≤◌, length, ◌∙◌, arith}
use Rattle.gen_search.specs.Places.{laid}
use Rattle.gen_search.specs.Wholes.{wholes}
use Rattle.gen_search.proofs.Kept.{back_kept, get_kept, inside_more, kept_longer, marked_le, marked_up, wholes_length}
use Rattle.gen_search.proofs.LeafTurns.{turn_taken, turn_too_large, turn_unfit}
use Rattle.gen_search.proofs.Ready.{turned_back}
use Rattle.gen_search.proofs.Results.{leads_on}
use Rattle.gen_search.proofs.searching.take_turn.Goals as goal

pub go_back-requires-clause-marked : goal.go_back-requires-clause-marked
go_back-requires-clause-marked g c =
    let more = kept_longer (g.P.PartialTest.earlier c.args.part.now) (g.P.PartialTest.whole c.args.part.now) (g.P.PartialTest.earlier c.turn.new.self) (g.P.PartialTest.whole c.turn.new.self) c.in_ok-turn.ensures.kept in
    marked_up c.args.walk.now.start c.args.walk.now.choices.items (length (g.P.PartialTest.earlier c.args.part.now)) (length (g.P.PartialTest.earlier c.turn.new.self)) c.requires.well.marked more

pub go_back-requires-in-Spent-clause-marked : goal.go_back-requires-in-Spent-clause-marked
go_back-requires-in-Spent-clause-marked g c =
    let more = kept_longer (g.P.PartialTest.earlier c.args.part.now) (g.P.PartialTest.whole c.args.part.now) (g.P.PartialTest.earlier c.turn.new.self) (g.P.PartialTest.whole c.turn.new.self) c.in_ok-turn.ensures.kept in
    marked_up c.args.walk.now.start c.args.walk.now.choices.items (length (g.P.PartialTest.earlier c.args.part.now)) (length (g.P.PartialTest.earlier c.turn.new.self)) c.requires.well.marked more

pub turn-requires-clause-leaf : goal.turn-requires-clause-leaf
turn-requires-clause-leaf g c = (c.args.leaf.line, c.requires.leaf)

pub turn-requires-clause-can : goal.turn-requires-clause-can
turn-requires-clause-can g c = c.requires.ready.1.whole c.args.walk.now.place.hart c.args.leaf.item.now c.requires.ready.2

pub returns-in-Taken-clause-ready : goal.returns-in-Taken-clause-ready
returns-in-Taken-clause-ready g c = λ first ready.
    let can = g.P.PartialTest.can_take in
    record {
      back = turned_back _ can first (g.P.PartialTest.earlier c.args.part.now) (g.P.PartialTest.whole c.args.part.now) (g.P.PartialTest.earlier c.turn.new.self) (g.P.PartialTest.whole c.turn.new.self) c.args.walk.now c.args.walk.now.place _ c.in_ok-turn.ensures.kept c.requires.well.marked ready.back;
      place = ready.place;
      whole = λ hart item can_first. c.in_ok-turn.ensures.still hart item (ready.whole hart item can_first);
    }

pub returns-in_ok-go_back-in-NoneFits-clause-ready : goal.returns-in_ok-go_back-in-NoneFits-clause-ready
returns-in_ok-go_back-in-NoneFits-clause-ready g c = λ first ready.
    c.in_ok-go_back-in-NoneFits.ensures.ready first
    (turned_back _ g.P.PartialTest.can_take first (g.P.PartialTest.earlier c.args.part.now) (g.P.PartialTest.whole c.args.part.now) (g.P.PartialTest.earlier c.turn.new.self) (g.P.PartialTest.whole c.turn.new.self) c.args.walk.now c.args.walk.now.place _ c.in_ok-turn.ensures.kept c.requires.well.marked ready.back)

pub returns-in_ok-go_back-in-Spent-clause-ready : goal.returns-in_ok-go_back-in-Spent-clause-ready
returns-in_ok-go_back-in-Spent-clause-ready g c = λ first ready.
    c.in_ok-go_back-in-Spent.ensures.ready first
    (turned_back _ g.P.PartialTest.can_take first (g.P.PartialTest.earlier c.args.part.now) (g.P.PartialTest.whole c.args.part.now) (g.P.PartialTest.earlier c.turn.new.self) (g.P.PartialTest.whole c.turn.new.self) c.args.walk.now c.args.walk.now.place _ c.in_ok-turn.ensures.kept c.requires.well.marked ready.back)

pub returns-in-Taken-clause-well : goal.returns-in-Taken-clause-well
returns-in-Taken-clause-well g c =
    let more = kept_longer (g.P.PartialTest.earlier c.args.part.now) (g.P.PartialTest.whole c.args.part.now) (g.P.PartialTest.earlier c.turn.new.self) (g.P.PartialTest.whole c.turn.new.self) c.in_ok-turn.ensures.kept in
    record {
      fit = c.requires.well.fit;
      counted = c.requires.well.counted;
      choices = c.requires.well.choices;
      marked = marked_up c.args.walk.now.start c.args.walk.now.choices.items (length (g.P.PartialTest.earlier c.args.part.now)) (length (g.P.PartialTest.earlier c.turn.new.self)) c.requires.well.marked more;
    }

pub returns-in-Taken-clause-first : goal.returns-in-Taken-clause-first
returns-in-Taken-clause-first g c =
    let low : c.args.walk.now.start ≤ length (g.P.PartialTest.earlier c.args.part.now) = marked_le c.args.walk.now.start c.args.walk.now.choices.items (length (g.P.PartialTest.earlier c.args.part.now)) c.requires.well.marked in
    let long = wholes_length (g.P.PartialTest.earlier c.args.part.now) (g.P.PartialTest.whole c.args.part.now) in
    get_kept (wholes (g.P.PartialTest.earlier c.args.part.now) (g.P.PartialTest.whole c.args.part.now)) (wholes (g.P.PartialTest.earlier c.turn.new.self) (g.P.PartialTest.whole c.turn.new.self)) c.args.walk.now.start c.in_ok-turn.ensures.kept (omega (arith, low, long))

pub returns-in-Taken-clause-same : goal.returns-in-Taken-clause-same
returns-in-Taken-clause-same g c = λ turns first r lt is comes.
    let long = wholes_length (g.P.PartialTest.earlier c.args.part.now) (g.P.PartialTest.whole c.args.part.now) in
    let answer = rw c.in-Taken.is at c.in_ok-turn.ensures.answer in
    leads_on g.P.PartialTest.rules turns c.args.walk.now.harts.now first _ _ r
    (λ o goes. inside_more g.P.PartialTest.rules turns (wholes (g.P.PartialTest.earlier c.args.part.now) (g.P.PartialTest.whole c.args.part.now)) c.args.walk.now.choices.items _ _
    (λ p ends. turn_taken g.P.PartialTest.rules turns c.args.walk.now.place.hart c.args.leaf.line c.args.leaf.item.now (laid c.args.walk.now.place) (g.P.PartialTest.whole c.args.part.now) c.args.walk.now.tally c.leaf_draws-draws.result c.leaf_draws-draws.new.draws
    c.requires.leaf lt c.leaf_draws-draws.ensures.words c.leaf_draws-draws.ensures.left (g.P.PartialTest.whole c.turn.new.self) p answer ends)
    o
    (back_kept g.P.PartialTest.rules turns (wholes (g.P.PartialTest.earlier c.args.part.now) (g.P.PartialTest.whole c.args.part.now)) (wholes (g.P.PartialTest.earlier c.turn.new.self) (g.P.PartialTest.whole c.turn.new.self)) c.args.walk.now.start c.args.walk.now.choices.items (length (g.P.PartialTest.earlier c.args.part.now)) _ o c.in_ok-turn.ensures.kept (omega (arith, long)) c.requires.well.marked goes))
    comes

pub returns-in_ok-go_back-in-NoneFits-clause-same : goal.returns-in_ok-go_back-in-NoneFits-clause-same
returns-in_ok-go_back-in-NoneFits-clause-same g c = λ turns first r lt is comes.
    let long = wholes_length (g.P.PartialTest.earlier c.args.part.now) (g.P.PartialTest.whole c.args.part.now) in
    let answer = rw c.in-NoneFits.is at c.in_ok-turn.ensures.answer in
    let low : c.args.walk.now.start ≤ length (g.P.PartialTest.earlier c.args.part.now) = marked_le c.args.walk.now.start c.args.walk.now.choices.items (length (g.P.PartialTest.earlier c.args.part.now)) c.requires.well.marked in
    let stood = get_kept (wholes (g.P.PartialTest.earlier c.args.part.now) (g.P.PartialTest.whole c.args.part.now)) (wholes (g.P.PartialTest.earlier c.turn.new.self) (g.P.PartialTest.whole c.turn.new.self)) c.args.walk.now.start c.in_ok-turn.ensures.kept (omega (arith, low, long)) ∙ is in
    leads_on g.P.PartialTest.rules turns c.args.walk.now.harts.now first _ _ r
    (λ o goes. inside_more g.P.PartialTest.rules turns (wholes (g.P.PartialTest.earlier c.args.part.now) (g.P.PartialTest.whole c.args.part.now)) c.args.walk.now.choices.items _ _
    (λ p ends. turn_unfit g.P.PartialTest.rules turns c.args.walk.now.place.hart c.args.leaf.line c.args.leaf.item.now (laid c.args.walk.now.place) (g.P.PartialTest.whole c.args.part.now) c.args.walk.now.tally c.leaf_draws-draws.result c.leaf_draws-draws.new.draws
    c.requires.leaf lt c.leaf_draws-draws.ensures.words c.leaf_draws-draws.ensures.left p answer ends)
    o
    (back_kept g.P.PartialTest.rules turns (wholes (g.P.PartialTest.earlier c.args.part.now) (g.P.PartialTest.whole c.args.part.now)) (wholes (g.P.PartialTest.earlier c.turn.new.self) (g.P.PartialTest.whole c.turn.new.self)) c.args.walk.now.start c.args.walk.now.choices.items (length (g.P.PartialTest.earlier c.args.part.now)) _ o c.in_ok-turn.ensures.kept (omega (arith, long)) c.requires.well.marked goes))
    (c.in_ok-go_back-in-NoneFits.ensures.same turns first r stood comes)

pub returns-in_ok-go_back-in-NoneFits-clause-first : goal.returns-in_ok-go_back-in-NoneFits-clause-first
returns-in_ok-go_back-in-NoneFits-clause-first g c =
    let low : c.args.walk.now.start ≤ length (g.P.PartialTest.earlier c.args.part.now) = marked_le c.args.walk.now.start c.args.walk.now.choices.items (length (g.P.PartialTest.earlier c.args.part.now)) c.requires.well.marked in
    let long = wholes_length (g.P.PartialTest.earlier c.args.part.now) (g.P.PartialTest.whole c.args.part.now) in
    c.in_ok-go_back-in-NoneFits.ensures.first ∙ get_kept (wholes (g.P.PartialTest.earlier c.args.part.now) (g.P.PartialTest.whole c.args.part.now)) (wholes (g.P.PartialTest.earlier c.turn.new.self) (g.P.PartialTest.whole c.turn.new.self)) c.args.walk.now.start c.in_ok-turn.ensures.kept (omega (arith, low, long))

pub returns-in_ok-go_back-in-Spent-clause-same : goal.returns-in_ok-go_back-in-Spent-clause-same
returns-in_ok-go_back-in-Spent-clause-same g c = λ turns first r lt is comes.
    let long = wholes_length (g.P.PartialTest.earlier c.args.part.now) (g.P.PartialTest.whole c.args.part.now) in
    let answer = rw c.in-Spent.is at c.in_ok-turn.ensures.answer in
    let low : c.args.walk.now.start ≤ length (g.P.PartialTest.earlier c.args.part.now) = marked_le c.args.walk.now.start c.args.walk.now.choices.items (length (g.P.PartialTest.earlier c.args.part.now)) c.requires.well.marked in
    let stood = get_kept (wholes (g.P.PartialTest.earlier c.args.part.now) (g.P.PartialTest.whole c.args.part.now)) (wholes (g.P.PartialTest.earlier c.turn.new.self) (g.P.PartialTest.whole c.turn.new.self)) c.args.walk.now.start c.in_ok-turn.ensures.kept (omega (arith, low, long)) ∙ is in
    leads_on g.P.PartialTest.rules turns c.args.walk.now.harts.now first _ _ r
    (λ o goes. inside_more g.P.PartialTest.rules turns (wholes (g.P.PartialTest.earlier c.args.part.now) (g.P.PartialTest.whole c.args.part.now)) c.args.walk.now.choices.items _ _
    (λ p ends. turn_too_large g.P.PartialTest.rules turns c.args.walk.now.place.hart c.args.leaf.line c.args.leaf.item.now (laid c.args.walk.now.place) (g.P.PartialTest.whole c.args.part.now) c.args.walk.now.tally c.leaf_draws-draws.result c.leaf_draws-draws.new.draws
    c.requires.leaf lt c.leaf_draws-draws.ensures.words c.leaf_draws-draws.ensures.left p answer ends)
    o
    (back_kept g.P.PartialTest.rules turns (wholes (g.P.PartialTest.earlier c.args.part.now) (g.P.PartialTest.whole c.args.part.now)) (wholes (g.P.PartialTest.earlier c.turn.new.self) (g.P.PartialTest.whole c.turn.new.self)) c.args.walk.now.start c.args.walk.now.choices.items (length (g.P.PartialTest.earlier c.args.part.now)) _ o c.in_ok-turn.ensures.kept (omega (arith, long)) c.requires.well.marked goes))
    (c.in_ok-go_back-in-Spent.ensures.same turns first r stood comes)

pub returns-in_ok-go_back-in-Spent-clause-first : goal.returns-in_ok-go_back-in-Spent-clause-first
returns-in_ok-go_back-in-Spent-clause-first g c =
    let low : c.args.walk.now.start ≤ length (g.P.PartialTest.earlier c.args.part.now) = marked_le c.args.walk.now.start c.args.walk.now.choices.items (length (g.P.PartialTest.earlier c.args.part.now)) c.requires.well.marked in
    let long = wholes_length (g.P.PartialTest.earlier c.args.part.now) (g.P.PartialTest.whole c.args.part.now) in
    c.in_ok-go_back-in-Spent.ensures.first ∙ get_kept (wholes (g.P.PartialTest.earlier c.args.part.now) (g.P.PartialTest.whole c.args.part.now)) (wholes (g.P.PartialTest.earlier c.turn.new.self) (g.P.PartialTest.whole c.turn.new.self)) c.args.walk.now.start c.in_ok-turn.ensures.kept (omega (arith, low, long))
