use Rattle.std.proofs.Common.{◌≡◌, ◌≤◌, ◌+◌, ◌-◌, length, Some}
use Rattle.std.specs.List.{slice_get}
use Rattle.gen_search.specs.Search.{SearchResult, Searches}
use Rattle.gen_search.specs.Internal.Walks.{Ahead, IsWell, Leads}
use Rattle.gen_search.specs.Ready.{IsReady}
use Rattle.gen_search.specs.Wholes.{wholes}
use Rattle.gen_search.proofs.searching.search.Given as goal

abbrev pub invariant-loop-walk : goal.invariant-loop-walk
invariant-loop-walk g l = record {
  same : (r : SearchResult g.row.P-Whole.Denot) → Leads g.P.PartialTest.rules l.turns l.fn.harts (g.P.PartialTest.whole l.fn.part) (Ahead g.P.PartialTest.rules l.turns (wholes (g.P.PartialTest.earlier l.part) (g.P.PartialTest.whole l.part)) (g.P.PartialTest.whole l.part) l.walk) r
      → Searches g.P.PartialTest.rules l.fn.harts l.seed l.turns (g.P.PartialTest.whole l.fn.part) r;
  well : IsWell (length (g.P.PartialTest.earlier l.part)) l.walk;
  ready : IsReady g.P.PartialTest.can_take (g.P.PartialTest.whole l.fn.part) (wholes (g.P.PartialTest.earlier l.part) (g.P.PartialTest.whole l.part)) (g.P.PartialTest.whole l.part) l.walk;
  counted : l.walk.tally.none_fits + l.walk.tally.spent ≤ l.walk.tally.turns;
  turns : l.walk.tally.turns ≤ l.turns;
  harts : l.walk.harts.now ≡ l.fn.harts;
  start : l.walk.start ≡ length (g.P.PartialTest.earlier l.fn.part);
  first : slice_get (wholes (g.P.PartialTest.earlier l.part) (g.P.PartialTest.whole l.part)) l.walk.start ≡ Some (g.P.PartialTest.whole l.fn.part);
  turned : g.P.PartialTest.turned l.part ≡ g.P.PartialTest.turned l.fn.part + l.walk.tally.turns;
}

abbrev pub decreases-loop-walk : goal.decreases-loop-walk
decreases-loop-walk g l = l.turns - l.walk.tally.turns
