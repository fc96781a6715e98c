use Rattle.std.proofs.lemmas.Result.{IfOk-weaker}
use Rattle.fd_prob.specs.declared.problem.Case.{Case}
use Rattle.fd_solve.specs.Internal.Marks.{marked_case}
use Rattle.fd_solve.proofs.Barring.{never_made}
use Rattle.fd_solve.proofs.Equivalence.{least_of_equivalent}
use Rattle.fd_solve.proofs.Marking.{marked_case_whole}
use Rattle.fd_solve.proofs.cases.solve_marked.Goals as goal

pub returns-then-branch-clause-least : goal.returns-then-branch-clause-least
returns-then-branch-clause-least c y of = never_made (marked_case c.args.marks.now c.args.biases.now c.args.place c.args.case.now) (c.in_ok-is_barred.ensures c.if-branch.true) y of

pub solve_case-requires-in-None : goal.solve_case-requires-in-None
solve_case-requires-in-None c = c.in_ok-made-in-None.ensures.whole

pub returns-in_ok-made-in-None-clause-least : goal.returns-in_ok-made-in-None-clause-least
returns-in_ok-made-in-None-clause-least c =
    let whole : Case = marked_case c.args.marks.now c.args.biases.now c.args.place c.args.case.now in
    IfOk-weaker c.solve_case-in-None.result _ _
    (λ o least. least_of_equivalent whole c.in_ok-made-in-None.made (marked_case_whole c.args.marks.now c.args.biases.now c.args.place c.args.case.now c.requires.case) c.in_ok-made-in-None.ensures c.args.pivots.now o least)
    c.solve_case-in-None.ensures
