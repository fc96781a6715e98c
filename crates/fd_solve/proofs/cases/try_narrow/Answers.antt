use Rattle.fd_solve.specs.Internal.Marks.{marked_case}
use Rattle.fd_prob.specs.declared.problem.Case.{Case}
use Rattle.fd_solve.proofs.Equivalence.{equivalent_after, least_of_equivalent, stands_in, tried_more}
use Rattle.fd_solve.proofs.Marking.{marked_case_whole}
use Rattle.fd_solve.proofs.DeadCases.{dead_made}
use Rattle.fd_solve.proofs.cases.try_narrow.Goals as goal

pub narrow_again-requires : goal.narrow_again-requires
narrow_again-requires c = c.in_ok-made.ensures.whole

pub solve_narrow-requires : goal.solve_narrow-requires
solve_narrow-requires c = c.in_ok-narrow.ensures.whole

pub returns-then-is_dead-clause-least : goal.returns-then-is_dead-clause-least
returns-then-is_dead-clause-least c x made =
    dead_made (marked_case c.args.marks.now c.args.biases.now c.args.place c.args.case.now) c.in_ok-made.made c.in_ok-made.ensures (c.is_dead.ensures c.if-is_dead.true) x made

pub returns-clause-least : goal.returns-clause-least
returns-clause-least c =
    let whole : Case = marked_case c.args.marks.now c.args.biases.now c.args.place c.args.case.now in
    least_of_equivalent whole c.in_ok-narrow.narrow (marked_case_whole c.args.marks.now c.args.biases.now c.args.place c.args.case.now c.requires.case)
    (equivalent_after whole c.in_ok-made.made c.in_ok-narrow.narrow c.in_ok-made.ensures c.in_ok-narrow.ensures) c.args.pivots.now c.in_ok-least.least c.in_ok-least.ensures

pub returns-clause-tried : goal.returns-clause-tried
returns-clause-tried c cases at are =
    let whole : Case = marked_case c.args.marks.now c.args.biases.now c.args.place c.args.case.now in
    tried_more cases c.args.tried.now.items c.push.new.self.items c.args.place whole c.in_ok-narrow.narrow at
    (stands_in whole c.in_ok-narrow.narrow (equivalent_after whole c.in_ok-made.made c.in_ok-narrow.narrow c.in_ok-made.ensures c.in_ok-narrow.ensures)) c.in_ok-push.ensures.items are
