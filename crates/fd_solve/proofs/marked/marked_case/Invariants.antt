use Rattle.std.proofs.Common.{drop}
use Rattle.fd_prob.specs.Fitting.{IsCase}
use Rattle.case_search.specs.Equivalent.{IsEquivalent}
use Rattle.fd_solve.specs.Internal.Marks.{marked_case}
use Rattle.fd_solve.proofs.marked.marked_case.Given as goal

abbrev pub invariant-loop-i : goal.invariant-loop-i
invariant-loop-i l = record {
  case : IsCase l.made;
  rest : IsEquivalent (marked_case l.marks l.biases l.place l.case) (marked_case (drop l.i l.marks) (drop l.i l.biases) l.place l.made);
}
