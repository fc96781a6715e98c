use Rattle.std.proofs.Common.{◌≡◌, ◌+◌, ◌∙◌, length, drop, ap, sym, arith}
use Rattle.std.specs.List.{list_any}
use Rattle.fd_prob.specs.Fitting.{fits, fits_case}
use Rattle.fd_solve.specs.Internal.Marks.{marked_case, whole_of}
use Rattle.fd_solve.proofs.FittingMarks.{case_and_rest, first_is, first_is_not, none_after}
use Rattle.fd_solve.proofs.meeting.fits_marked.Goals as goal

pub returns-then-fits_marked_case : goal.returns-then-fits_marked_case
returns-then-fits_marked_case c =
    let m = c.args.marked.now in
    let x = c.args.x.now in
    first_is (list_any (fits_case x) (drop c.loop-place.place (whole_of m).cases)) (fits_case x (marked_case m.marks.now m.biases.now c.loop-place.place c.case-item.result)) (list_any (fits_case x) (drop (c.loop-place.place + 1) (whole_of m).cases)) (fits (whole_of m) x)
    (case_and_rest m.marks.now m.biases.now m.problem.now x c.as_slice-case-items.result.now c.loop-place.place c.case-item.result c.requires.entries c.as_slice-case-items.ensures c.loop-place-test.true c.case-item.is) c.loop-place.invariant c.if-fits_marked_case.ensures

pub loop-place-preserved : goal.loop-place-preserved
loop-place-preserved c =
    let m = c.args.marked.now in
    let x = c.args.x.now in
    first_is_not (list_any (fits_case x) (drop c.loop-place.place (whole_of m).cases)) (fits_case x (marked_case m.marks.now m.biases.now c.loop-place.place c.case-item.result)) (list_any (fits_case x) (drop (c.loop-place.place + 1) (whole_of m).cases)) (fits (whole_of m) x)
    (case_and_rest m.marks.now m.biases.now m.problem.now x c.as_slice-case-items.result.now c.loop-place.place c.case-item.result c.requires.entries c.as_slice-case-items.ensures c.loop-place-test.true c.case-item.is) c.loop-place.invariant c.if-fits_marked_case.ensures

pub returns : goal.returns
returns c =
    let m = c.args.marked.now in
    let items : length c.as_slice-case-items.result.now ≡ length m.problem.now.cases = ap length c.as_slice-case-items.ensures in
    sym (none_after m.marks.now m.biases.now m.problem.now c.args.x.now c.loop-place.place c.requires.entries (omega (arith, c.loop-place-test.false, items))) ∙ c.loop-place.invariant
