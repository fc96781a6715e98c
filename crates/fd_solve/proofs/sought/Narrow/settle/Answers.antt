use Rattle.std.proofs.Common.{arith}
use Rattle.fd_solve.proofs.Equivalence.{all_itself, all_whole, equivalent_count}
use Rattle.fd_solve.proofs.sought.Narrow.settle.Goals as goal

pub case_at-requires : goal.case_at-requires
case_at-requires c =
    let first = c.args.self.now in
    omega (arith, equivalent_count first c.loop-place.self (c.loop-place.invariant first (all_itself first c.requires.cases)), c.loop-place-test.true, c.count-place-end.ensures)

pub settle_at-requires-clause-cases : goal.settle_at-requires-clause-cases
settle_at-requires-clause-cases c =
    let first = c.args.self.now in
    all_whole first c.loop-place.self (c.loop-place.invariant first (all_itself first c.requires.cases))

pub settle_at-requires-clause-place : goal.settle_at-requires-clause-place
settle_at-requires-clause-place c =
    let first = c.args.self.now in
    omega (arith, equivalent_count first c.loop-place.self (c.loop-place.invariant first (all_itself first c.requires.cases)), c.loop-place-test.true, c.count-place-end.ensures)
