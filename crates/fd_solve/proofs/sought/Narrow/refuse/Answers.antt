use Rattle.std.proofs.Common.{arith}
use Rattle.fd_solve.specs.Internal.Marks.{begun_of}
use Rattle.fd_solve.proofs.Equivalence.{equivalent_count}
use Rattle.fd_solve.proofs.sought.Narrow.refuse.Goals as goal

pub refuse_at-requires-clause-place : goal.refuse_at-requires-clause-place
refuse_at-requires-clause-place c =
    let cases = (begun_of c.args.marked.now).cases in
    omega (arith, equivalent_count cases c.args.self.now c.requires.cases, equivalent_count cases c.loop-place.self c.loop-place.invariant, c.loop-place-test.true, c.count-place-end.ensures)
