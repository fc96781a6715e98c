use Rattle.std.proofs.Common.{length}
use Rattle.fd_solve.specs.Internal.Marks.{whole_of}
use Rattle.fd_solve.specs.Internal.Equivalent.{AreEquivalent, AreTried}
use Rattle.fd_solve.proofs.sought.Narrow.put_tried.Given as goal

abbrev pub invariant-loop-last : goal.invariant-loop-last
invariant-loop-last l = record {
  stand : AreEquivalent (whole_of l.marked).cases l.self;
  tried : AreTried (whole_of l.marked).cases l.left.items;
}

abbrev pub decreases-loop-last : goal.decreases-loop-last
decreases-loop-last l = length l.left.items
