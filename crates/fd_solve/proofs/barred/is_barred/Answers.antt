use Rattle.std.proofs.Common.{false, arith}
use Rattle.case_search.proofs.Lists.{any_default}
use Rattle.fd_solve.proofs.Barring.{marked_out}
use Rattle.fd_solve.proofs.barred.is_barred.Goals as goal

pub returns-then-branch : goal.returns-then-branch
returns-then-branch c is x =
    let i = c.loop-i.i in
    marked_out c.args.marks.now c.args.biases.now c.args.place c.args.case.now x i _ c.index-biases-i.result (record { op = c.requires.case.op; domains = c.requires.case.domains }) c.loop-i-test.true (omega (arith, c.loop-i-test.true, c.requires.marks))
    (any_default c.args.marks.now i false _ c.loop-i-test.true) c.index-biases-i.is c.if-mark.true (c.in_ok-is_barred_by.ensures c.if-branch.true)
