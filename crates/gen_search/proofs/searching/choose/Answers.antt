use Rattle.std.proofs.Common.{ℕ, sym, subst}
use Rattle.gen_search.specs.Ready.{AreAllowed, AreReady, parts_of_ways}
use Rattle.gen_search.specs.Wholes.{wholes}
use Rattle.gen_search.proofs.Kept.{inside_more}
use Rattle.gen_search.proofs.Ready.{last_allows}
use Rattle.gen_search.proofs.Ways.{choice_begun, same_laid}
use Rattle.gen_search.proofs.searching.choose.Goals as goal

pub returns-clause-same : goal.returns-clause-same
returns-clause-same g c = λ turns o goes.
    let left = same_laid c.in_ok-copy.field-0 c.args.walk.now.place c.in_ok-copy.ensures.hart c.in_ok-copy.ensures.later c.in_ok-copy.ensures.blocks in
    inside_more g.P.PartialTest.rules turns (wholes (g.P.PartialTest.earlier c.args.part.now) (g.P.PartialTest.whole c.args.part.now)) c.args.walk.now.choices.items _ _
    (λ p back. choice_begun g.P.PartialTest.rules turns c.in_ok-copy.field-0 c.args.walk.now.place c.args.ways.now (g.P.PartialTest.whole c.args.part.now) c.args.walk.now.tally c.draw.result c.picked-picked.result c.draw.new.draws p
    c.in_ok-copy.ensures.hart left c.picked-picked.ensures.value c.draw.ensures.word c.draw.ensures.left back)
    o (c.in_ok-take_way.ensures.same turns o goes)

pub returns-clause-ready : goal.returns-clause-ready
returns-clause-ready g c = λ first ready ways.
    let can = g.P.PartialTest.can_take in
    let left = same_laid c.in_ok-copy.field-0 c.args.walk.now.place c.in_ok-copy.ensures.hart c.in_ok-copy.ensures.later c.in_ok-copy.ensures.blocks in
    c.in_ok-take_way.ensures.ready first ready.whole
    (record { harts = ready.back.harts; start = ready.back.start; choices = ready.back.choices })
    (record {
      ways = subst (λ (hart : ℕ). AreAllowed (can first) hart (parts_of_ways c.args.ways.now)) (sym c.in_ok-copy.ensures.hart) ways;
      place = subst (AreReady (can first)) (sym left) ready.place;
      whole = last_allows _ can first (g.P.PartialTest.earlier c.args.part.now) (g.P.PartialTest.whole c.args.part.now) ready.whole c.mark.result c.mark.ensures;
    })
