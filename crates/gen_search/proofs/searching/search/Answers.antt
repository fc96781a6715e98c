use Rattle.std.proofs.Common.{rules, ◌≡◌, ℕ, List, subst, refl, sym, ap, ◌∙◌, arith}
use Rattle.std.specs.List.{slice_get}
use Rattle.tpl_ast.specs.declared.template.HartDecl.{HartDecl}
use Rattle.rand_pcg.specs.Lcg.{Lcg}
use Rattle.gen_search.specs.declared.draws.Tally.{Tally}
use Rattle.gen_search.specs.Search.{Outcome, Finished, GaveUp, Done, NoTest, done, fresh, gave_up, gives_up}
use Rattle.gen_search.specs.Places.{laid}
use Rattle.gen_search.specs.Ready.{AreChoicesReady, AreReady}
use Rattle.gen_search.specs.Internal.Walks.{Ahead, LeafAhead, Leads}
use Rattle.gen_search.specs.Wholes.{wholes}
use Rattle.gen_search.proofs.Kept.{inside_gave_up, last_whole}
use Rattle.gen_search.proofs.Results.{begins, leads_on}
use Rattle.gen_search.proofs.searching.search.Goals as goal

pub returns-in_default-clause-searches : goal.returns-in_default-clause-searches
returns-in_default-clause-searches g c =
    let known = c.loop-walk.invariant in
    let made : c.to_leaf.new.walk.tally.turns ≡ c.loop-walk.walk.tally.turns = ap (λ (x : Tally). x.turns) c.in_ok-leaf.ensures.tally in
    let ends = rw c.in_default.is at c.in_ok-leaf.ensures.done in
    let whole = g.P.PartialTest.whole c.to_leaf.new.part in (
      Done whole c.to_leaf.new.walk.tally,
      known.same (Done whole c.to_leaf.new.walk.tally) (Finished whole c.to_leaf.new.walk.tally, ends c.args.turns, done),
      refl,
      (omega (arith, c.in_ok-leaf.ensures.turned, known.turned, made), omega (arith, known.turns, made)),
    )

pub returns-then-walk-turns-clause-searches : goal.returns-then-walk-turns-clause-searches
returns-then-walk-turns-clause-searches g c =
    let known = c.loop-walk.invariant in
    let made : c.to_leaf.new.walk.tally.turns ≡ c.loop-walk.walk.tally.turns = ap (λ (x : Tally). x.turns) c.in_ok-leaf.ensures.tally in
    let next = rw c.in-Some.is at c.in_ok-leaf.ensures.done in
    let leafy = rw c.in-Some.is at c.in_ok-leaf.ensures.leaf in
    let t = c.to_leaf.new.walk.tally in
    let ws = wholes (g.P.PartialTest.earlier c.to_leaf.new.part) (g.P.PartialTest.whole c.to_leaf.new.part) in (
      NoTest t,
      known.same (NoTest t)
          (GaveUp t, next c.args.turns (GaveUp t) (inside_gave_up g.P.PartialTest.rules c.args.turns ws c.to_leaf.new.walk.choices.items _ t (gives_up leafy c.if-walk-turns.true)), gave_up),
      (refl, refl, refl),
      (omega (arith, c.in_ok-leaf.ensures.turned, known.turned, made), omega (arith, known.turns, made, c.if-walk-turns.true)),
    )

pub returns-in_default-clause-first : goal.returns-in_default-clause-first
returns-in_default-clause-first g c =
    ap (λ (n : ℕ). slice_get (wholes (g.P.PartialTest.earlier c.to_leaf.new.part) (g.P.PartialTest.whole c.to_leaf.new.part)) n) (sym c.loop-walk.invariant.start)
    ∙ c.in_ok-leaf.ensures.first
    ∙ c.loop-walk.invariant.first

pub returns-then-walk-turns-clause-first : goal.returns-then-walk-turns-clause-first
returns-then-walk-turns-clause-first g c =
    ap (λ (n : ℕ). slice_get (wholes (g.P.PartialTest.earlier c.to_leaf.new.part) (g.P.PartialTest.whole c.to_leaf.new.part)) n) (sym c.loop-walk.invariant.start)
    ∙ c.in_ok-leaf.ensures.first
    ∙ c.loop-walk.invariant.first

pub take_turn-requires-clause-ready : goal.take_turn-requires-clause-ready
take_turn-requires-clause-ready g c =
    let next = rw c.in-Some.is at c.in_ok-leaf.ensures.ready in
    let first = g.P.PartialTest.whole c.args.part.now in
    let stands = next first c.loop-walk.invariant.ready in
    (first, stands.0, stands.1)

pub loop-walk-preserved : goal.loop-walk-preserved
loop-walk-preserved g c =
    let known = c.loop-walk.invariant in
    let made : c.to_leaf.new.walk.tally.turns ≡ c.loop-walk.walk.tally.turns = ap (λ (x : Tally). x.turns) c.in_ok-leaf.ensures.tally in
    let next = rw c.in-Some.is at c.in_ok-leaf.ensures.done in
    let stands = rw c.in-Some.is at c.in_ok-leaf.ensures.ready in
    let first = g.P.PartialTest.whole c.args.part.now in
    let ws = wholes (g.P.PartialTest.earlier c.to_leaf.new.part) (g.P.PartialTest.whole c.to_leaf.new.part) in
    let after = wholes (g.P.PartialTest.earlier c.take_turn.new.part) (g.P.PartialTest.whole c.take_turn.new.part) in
    let begun = ap (λ (n : ℕ). slice_get ws n) c.in_ok-leaf.ensures.start ∙ c.in_ok-leaf.ensures.first ∙ known.first in
    let harts : c.to_leaf.new.walk.harts.now ≡ c.args.harts.now = (λ i. (c.in_ok-leaf.ensures.harts i).now) ∙ known.harts in
    record {
      same = λ r comes.
          let walks : List HartDecl → (Outcome _ → Type 0) → Type 0 = λ hs outcomes. Leads g.P.PartialTest.rules c.args.turns hs first outcomes r in
          let ahead : Outcome _ → Type 0 = Ahead g.P.PartialTest.rules c.args.turns after (g.P.PartialTest.whole c.take_turn.new.part) c.take_turn.new.walk in
          let leaf : Outcome _ → Type 0 = LeafAhead g.P.PartialTest.rules c.args.turns ws (g.P.PartialTest.whole c.to_leaf.new.part) c.to_leaf.new.walk c.in-Some.leaf in
          known.same r
          (leads_on g.P.PartialTest.rules c.args.turns c.args.harts.now first leaf _ r (λ o goes. next c.args.turns o goes)
          (subst (λ (hs : List HartDecl). walks hs leaf) harts
          (c.in_ok-take_turn.ensures.same c.args.turns first r (omega (arith, c.if-walk-turns.false)) begun
          (subst (λ (hs : List HartDecl). walks hs ahead) (sym harts) comes))));
      well = c.in_ok-take_turn.ensures.well;
      ready = c.in_ok-take_turn.ensures.ready first (stands first known.ready).0;
      counted = c.in_ok-take_turn.ensures.counted;
      turns = omega (arith, c.in_ok-take_turn.ensures.turns, c.if-walk-turns.false);
      harts = (λ i. (c.in_ok-take_turn.ensures.harts i).now) ∙ harts;
      start = c.in_ok-take_turn.ensures.start ∙ c.in_ok-leaf.ensures.start ∙ known.start;
      first = ap (λ (n : ℕ). slice_get after n) c.in_ok-take_turn.ensures.start ∙ c.in_ok-take_turn.ensures.first ∙ begun;
      turned = omega (arith, c.in_ok-take_turn.ensures.turned, c.in_ok-leaf.ensures.turned, known.turned, c.in_ok-take_turn.ensures.turns, made);
    }

pub take_turn-requires-clause-leaf : goal.take_turn-requires-clause-leaf
take_turn-requires-clause-leaf g c = rw c.in-Some.is at c.in_ok-leaf.ensures.leaf

pub loop-walk-init : goal.loop-walk-init
loop-walk-init g c =
    let first = g.P.PartialTest.whole c.args.part.now in
    let ws = wholes (g.P.PartialTest.earlier c.args.part.now) first in
    let start = ap (λ (n : ℕ). slice_get ws n) c.mark.ensures ∙ last_whole (g.P.PartialTest.earlier c.args.part.now) first in
    record {
      same = λ r comes.
          begins g.P.PartialTest.rules c.args.turns c.args.harts.now first ws c.new.result.items _ (fresh c.args.seed) (laid c.in_ok-first.field-0) r
          c.new.ensures.items c.in_ok-first.ensures.laid (ap (λ (d : Lcg). let t : Tally = record { draws = d; turns = 0; none_fits = 0; spent = 0; last_line = 0 } in t) c.new-2.ensures) comes;
      well = search rules;
      ready = record {
        back = record {
          harts = c.requires.ready;
          start = start;
          choices = subst (AreChoicesReady g.P.PartialTest.can_take first ws) (sym c.new.ensures.items) tt;
        };
        place = subst (AreReady (g.P.PartialTest.can_take first)) (sym c.in_ok-first.ensures.laid) c.requires.ready;
        whole = λ hart item can. can;
      };
      counted = search rules;
      turns = search rules;
      harts = search rules;
      start = search rules;
      first = start;
      turned = search rules;
    }
