use Rattle.fd_solve.specs.Internal.Equivalent.{AreTried}
use Rattle.fd_solve.specs.Internal.Marks.{begun_of, with_marked}
use Rattle.case_search.specs.Search.{LeastOrNone}
use Rattle.fd_solve.proofs.FirstMarks.{from_on}
use Rattle.fd_solve.proofs.OneOperation.{IsMadeBefore}
use Rattle.fd_solve.proofs.cases.solve_cases.Given as goal

abbrev pub invariant-loop-place : goal.invariant-loop-place
invariant-loop-place l = record {
  least : LeastOrNone l.pivots (IsMadeBefore l.op (with_marked (from_on l.marked.from l.marked.marks.now) (from_on l.marked.from l.marked.biases.now) (begun_of l.marked)).cases l.place) l.best;
  tried : AreTried (with_marked (from_on l.marked.from l.marked.marks.now) (from_on l.marked.from l.marked.biases.now) (begun_of l.marked)).cases l.tried.items;
}
