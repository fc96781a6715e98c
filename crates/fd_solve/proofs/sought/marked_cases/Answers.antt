use Rattle.std.proofs.Common.{length, length-append, ◌∷◌, [], ap, arith}
use Rattle.fd_solve.specs.Internal.Marks.{marked_case}
use Rattle.fd_solve.proofs.Equivalence.{one_more_marked, stands_in}
use Rattle.fd_solve.proofs.sought.marked_cases.Goals as goal

pub loop-place-preserved : goal.loop-place-preserved
loop-place-preserved c =
    let before = c.loop-place.made.items in
    let case = c.index-cases-place.result in
    let d = c.in_ok-marked_case.field-0 in
    let own = marked_case c.args.marks.now c.args.biases.now c.loop-place.place case in
    record {
      count = omega (arith, ap length c.in_ok-push.ensures.items, length-append before (d ∷ []), c.loop-place.invariant.count);
      each = one_more_marked c.args.marks.now c.args.biases.now c.args.cases.now before c.push.new.self.items c.loop-place.place case d c.loop-place-test.true c.index-cases-place.is
          (stands_in own d c.in_ok-marked_case.ensures) c.in_ok-push.ensures.items c.loop-place.invariant.count c.loop-place.invariant.each;
    }
