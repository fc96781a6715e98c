use Rattle.std.proofs.Common.{◌∙◌, arith}
use Rattle.std.specs.Prelude.{false}
use Rattle.fd_solve.proofs.FittingMarks.{one_met}
use Rattle.case_search.proofs.Lists.{any_default}
use Rattle.fd_solve.proofs.meeting.meets_marked.Goals as goal

pub loop-i-preserved : goal.loop-i-preserved
loop-i-preserved c =
    let marks = c.args.marks.now in
    let i = c.loop-i.i in
    one_met c.args.op c.args.x.now c.args.place marks c.args.biases.now i _ c.index-biases-i.result c.loop-i-test.true (omega (arith, c.loop-i-test.true, c.requires.marks)) (any_default marks i false _ c.loop-i-test.true) c.index-biases-i.is c.if-not-meets_mark.ensures
    ∙ c.loop-i.invariant
