use Rattle.std.proofs.Common.{◌≡◌, ℕ, length}
use Rattle.std.specs.List.{slice_get}
use Rattle.gen_search.specs.Places.{steps_left}
use Rattle.gen_search.specs.Search.{Outcome}
use Rattle.gen_search.specs.Internal.Walks.{Ahead, IsWell, with_draws}
use Rattle.gen_search.specs.Ready.{IsReady}
use Rattle.gen_search.specs.Wholes.{wholes}
use Rattle.gen_search.proofs.searching.to_leaf.Given as goal

abbrev pub invariant-loop-item : goal.invariant-loop-item
invariant-loop-item g l = record {
  same : (turns : ℕ) (o : Outcome g.row.P-Whole.Denot) → Ahead g.P.PartialTest.rules turns (wholes (g.P.PartialTest.earlier l.part) (g.P.PartialTest.whole l.part)) (g.P.PartialTest.whole l.part) l.walk o
      → Ahead g.P.PartialTest.rules turns (wholes (g.P.PartialTest.earlier l.fn.part) (g.P.PartialTest.whole l.fn.part)) (g.P.PartialTest.whole l.fn.part) l.fn.walk o;
  well : IsWell (length (g.P.PartialTest.earlier l.part)) l.walk;
  ready : (first : g.row.P-Whole.Denot) → IsReady g.P.PartialTest.can_take first (wholes (g.P.PartialTest.earlier l.fn.part) (g.P.PartialTest.whole l.fn.part)) (g.P.PartialTest.whole l.fn.part) l.fn.walk
      → IsReady g.P.PartialTest.can_take first (wholes (g.P.PartialTest.earlier l.part) (g.P.PartialTest.whole l.part)) (g.P.PartialTest.whole l.part) l.walk;
  tally : l.walk.tally ≡ with_draws l.walk.tally.draws l.fn.walk.tally;
  start : l.walk.start ≡ l.fn.walk.start;
  harts : l.walk.harts ≡ l.fn.walk.harts;
  first : slice_get (wholes (g.P.PartialTest.earlier l.part) (g.P.PartialTest.whole l.part)) l.fn.walk.start ≡ slice_get (wholes (g.P.PartialTest.earlier l.fn.part) (g.P.PartialTest.whole l.fn.part)) l.fn.walk.start;
  turned : g.P.PartialTest.turned l.part ≡ g.P.PartialTest.turned l.fn.part;
}

abbrev pub decreases-loop-item : goal.decreases-loop-item
decreases-loop-item g l = steps_left l.walk.place
