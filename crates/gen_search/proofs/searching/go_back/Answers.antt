use Rattle.std.proofs.Common.{◌≡◌, ◌≤◌, ℕ, List, length, sym, subst, ◌∙◌, arith}
use Rattle.std.specs.List.{slice_get}
use Rattle.gen_search.specs.declared.choice.Choice.{Choice}
use Rattle.gen_search.specs.Fit.{AreFit}
use Rattle.gen_search.specs.Places.{AreMarked, AreOpen, laid}
use Rattle.gen_search.specs.Ready.{AllowsAll, AreChoicesReady, AreReady}
use Rattle.gen_search.specs.Wholes.{wholes}
use Rattle.gen_search.proofs.Kept.{dead_inside, inside_marked, inside_open, marked_le, rolled_get, rolled_length, rolled_whole}
use Rattle.gen_search.proofs.Ready.{choice_seen, choices_inside, choices_seen}
use Rattle.gen_search.proofs.Results.{begins_again, leads_on, same_some}
use Rattle.gen_search.proofs.searching.go_back.Goals as goal

pub rollback-requires : goal.rollback-requires
rollback-requires g c = (inside_marked c.args.walk.now.choices.items c.next_open.new.choices.items c.in-Some.choice c.args.walk.now.start _ c.in-Some.ensures.1 c.requires.marked).1

pub take_way-requires-clause-choice : goal.take_way-requires-clause-choice
take_way-requires-clause-choice g c = (inside_open c.args.walk.now.choices.items c.next_open.new.choices.items c.in-Some.choice c.in-Some.ensures.1 c.requires.choices).1

pub take_way-requires-clause-stands : goal.take_way-requires-clause-stands
take_way-requires-clause-stands g c =
    let m = inside_marked c.args.walk.now.choices.items c.next_open.new.choices.items c.in-Some.choice c.args.walk.now.start (length (g.P.PartialTest.earlier c.args.part.now)) c.in-Some.ensures.1 c.requires.marked in
    sym (rolled_length (g.P.PartialTest.earlier c.args.part.now) (g.P.PartialTest.whole c.args.part.now) (g.P.PartialTest.earlier c.rollback.new.self) (g.P.PartialTest.whole c.rollback.new.self) c.in-Some.choice.mark c.rollback.ensures.back m.1)

pub take_way-requires-clause-others : goal.take_way-requires-clause-others
take_way-requires-clause-others g c = (inside_open c.args.walk.now.choices.items c.next_open.new.choices.items c.in-Some.choice c.in-Some.ensures.1 c.requires.choices).0

pub take_way-requires-clause-marked : goal.take_way-requires-clause-marked
take_way-requires-clause-marked g c = (inside_marked c.args.walk.now.choices.items c.next_open.new.choices.items c.in-Some.choice c.args.walk.now.start _ c.in-Some.ensures.1 c.requires.marked).0

pub rollback-requires-in-None : goal.rollback-requires-in-None
rollback-requires-in-None g c = marked_le c.args.walk.now.start c.args.walk.now.choices.items (length (g.P.PartialTest.earlier c.args.part.now)) c.requires.marked

pub returns-in_ok-take_way-in-Some-clause-same : goal.returns-in_ok-take_way-in-Some-clause-same
returns-in_ok-take_way-in-Some-clause-same g c = λ turns first r is comes.
    leads_on g.P.PartialTest.rules turns c.args.walk.now.harts.now first _ _ r
    (λ o goes. dead_inside g.P.PartialTest.rules turns (g.P.PartialTest.earlier c.args.part.now) (g.P.PartialTest.whole c.args.part.now) (g.P.PartialTest.earlier c.rollback.new.self) (g.P.PartialTest.whole c.rollback.new.self)
    c.args.walk.now.choices.items c.next_open.new.choices.items c.in-Some.choice c.args.walk.now.start c.args.walk.now.tally o c.in-Some.ensures.1 c.requires.choices c.requires.marked c.rollback.ensures.back
    (c.in_ok-take_way-in-Some.ensures.same turns o goes))
    comes

pub returns-in_ok-take_way-in-Some-clause-first : goal.returns-in_ok-take_way-in-Some-clause-first
returns-in_ok-take_way-in-Some-clause-first g c =
    let m = inside_marked c.args.walk.now.choices.items c.next_open.new.choices.items c.in-Some.choice c.args.walk.now.start (length (g.P.PartialTest.earlier c.args.part.now)) c.in-Some.ensures.1 c.requires.marked in
    c.in_ok-take_way-in-Some.ensures.first
    ∙ rolled_get (g.P.PartialTest.earlier c.args.part.now) (g.P.PartialTest.whole c.args.part.now) (g.P.PartialTest.earlier c.rollback.new.self) (g.P.PartialTest.whole c.rollback.new.self) c.in-Some.choice.mark c.args.walk.now.start c.rollback.ensures.back
    (marked_le c.args.walk.now.start c.next_open.new.choices.items c.in-Some.choice.mark m.0)

pub returns-in_ok-walk-in-None-clause-same : goal.returns-in_ok-walk-in-None-clause-same
returns-in_ok-walk-in-None-clause-same g c = λ turns first r is comes.
    let le = marked_le c.args.walk.now.start c.args.walk.now.choices.items (length (g.P.PartialTest.earlier c.args.part.now)) c.requires.marked in
    let stood = rolled_whole (g.P.PartialTest.earlier c.args.part.now) (g.P.PartialTest.whole c.args.part.now) (g.P.PartialTest.earlier c.rollback-in-None.new.self) (g.P.PartialTest.whole c.rollback-in-None.new.self) c.args.walk.now.start c.rollback-in-None.ensures.back le in
    begins_again g.P.PartialTest.rules turns c.args.walk.now.harts.now first (g.P.PartialTest.whole c.rollback-in-None.new.self)
    (wholes (g.P.PartialTest.earlier c.args.part.now) (g.P.PartialTest.whole c.args.part.now)) (wholes (g.P.PartialTest.earlier c.rollback-in-None.new.self) (g.P.PartialTest.whole c.rollback-in-None.new.self))
    c.args.walk.now.choices.items c.next_open.new.choices.items c.args.walk.now.start c.args.walk.now.tally (laid c.in_ok-walk-in-None.field-0) r
    c.requires.choices c.in-None.ensures.0 c.in-None.ensures.1 c.in_ok-walk-in-None.ensures.laid is stood comes

pub returns-in_ok-walk-in-None-clause-well : goal.returns-in_ok-walk-in-None-clause-well
returns-in_ok-walk-in-None-clause-well g c =
    let le = marked_le c.args.walk.now.start c.args.walk.now.choices.items (length (g.P.PartialTest.earlier c.args.part.now)) c.requires.marked in
    let long = rolled_length (g.P.PartialTest.earlier c.args.part.now) (g.P.PartialTest.whole c.args.part.now) (g.P.PartialTest.earlier c.rollback-in-None.new.self) (g.P.PartialTest.whole c.rollback-in-None.new.self) c.args.walk.now.start c.rollback-in-None.ensures.back le in
    let up : c.args.walk.now.start ≤ length (g.P.PartialTest.earlier c.rollback-in-None.new.self) = omega (arith, long) in
    record {
      fit = subst AreFit (sym c.in_ok-walk-in-None.ensures.laid) c.requires.harts;
      counted = c.in_ok-walk-in-None.ensures.counted;
      choices = subst AreOpen (sym c.in-None.ensures.1) tt;
      marked = subst (λ (cs : List Choice). AreMarked c.args.walk.now.start cs (length (g.P.PartialTest.earlier c.rollback-in-None.new.self))) (sym c.in-None.ensures.1) up;
    }

pub returns-in_ok-walk-in-None-clause-first : goal.returns-in_ok-walk-in-None-clause-first
returns-in_ok-walk-in-None-clause-first g c =
    let same : c.args.walk.now.start ≤ c.args.walk.now.start = omega arith in
    rolled_get (g.P.PartialTest.earlier c.args.part.now) (g.P.PartialTest.whole c.args.part.now) (g.P.PartialTest.earlier c.rollback-in-None.new.self) (g.P.PartialTest.whole c.rollback-in-None.new.self) c.args.walk.now.start c.args.walk.now.start c.rollback-in-None.ensures.back same

pub returns-in_ok-take_way-in-Some-clause-ready : goal.returns-in_ok-take_way-in-Some-clause-ready
returns-in_ok-take_way-in-Some-clause-ready g c = λ first back.
    let can = g.P.PartialTest.can_take in
    let xs = g.P.PartialTest.earlier c.args.part.now in
    let x = g.P.PartialTest.whole c.args.part.now in
    let ys = g.P.PartialTest.earlier c.rollback.new.self in
    let y = g.P.PartialTest.whole c.rollback.new.self in
    let choice = c.in-Some.choice in
    let m = inside_marked c.args.walk.now.choices.items c.next_open.new.choices.items choice c.args.walk.now.start (length xs) c.in-Some.ensures.1 c.requires.marked in
    let seen : (n : ℕ) → n ≤ choice.mark → slice_get (wholes ys y) n ≡ slice_get (wholes xs x) n = λ n le. rolled_get xs x ys y choice.mark n c.rollback.ensures.back le in
    let inside = choices_inside _ can first (wholes xs x) c.args.walk.now.choices.items c.next_open.new.choices.items choice c.in-Some.ensures.1 back.choices in
    c.in_ok-take_way-in-Some.ensures.ready first
    (inside.1.whole y (rolled_whole xs x ys y choice.mark c.rollback.ensures.back m.1))
    (record {
      harts = back.harts;
      start = seen c.args.walk.now.start (marked_le c.args.walk.now.start c.next_open.new.choices.items choice.mark m.0) ∙ back.start;
      choices = choices_seen _ can first (wholes xs x) (wholes ys y) c.args.walk.now.start c.next_open.new.choices.items choice.mark seen m.0 inside.0;
    })
    (choice_seen _ can first (wholes xs x) (wholes ys y) choice choice.mark seen (omega arith) inside.1)

pub returns-in_ok-walk-in-None-clause-ready : goal.returns-in_ok-walk-in-None-clause-ready
returns-in_ok-walk-in-None-clause-ready g c = λ first back.
    let can = g.P.PartialTest.can_take in
    let xs = g.P.PartialTest.earlier c.args.part.now in
    let x = g.P.PartialTest.whole c.args.part.now in
    let ys = g.P.PartialTest.earlier c.rollback-in-None.new.self in
    let y = g.P.PartialTest.whole c.rollback-in-None.new.self in
    let start = c.args.walk.now.start in
    let le = marked_le start c.args.walk.now.choices.items (length xs) c.requires.marked in
    let stood = rolled_whole xs x ys y start c.rollback-in-None.ensures.back le in
    let same : first ≡ y = same_some _ first y (sym back.start ∙ stood) in
    record {
      back = record {
        harts = back.harts;
        start = rolled_get xs x ys y start start c.rollback-in-None.ensures.back (omega arith) ∙ back.start;
        choices = subst (AreChoicesReady can first (wholes ys y)) (sym c.in-None.ensures.1) tt;
      };
      place = subst (AreReady (can first)) (sym c.in_ok-walk-in-None.ensures.laid) back.harts;
      whole = subst (AllowsAll can first) same (λ hart item can_first. can_first);
    }
