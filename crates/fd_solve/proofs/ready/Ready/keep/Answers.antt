use Rattle.std.proofs.Common.{length, refl, subst}
use Rattle.fd_prob.specs.declared.problem.Problem.{Problem}
use Rattle.fd_solve.specs.Internal.Equivalent.{StandFor}
use Rattle.fd_solve.specs.declared.ready.Ready.{Ready}
use Rattle.fd_solve.proofs.Equivalence.{all_brought}
use Rattle.fd_solve.proofs.FirstMarks.{all_begun, ready_settled}
use Rattle.fd_solve.proofs.ready.Ready.keep.Goals as goal

pub put_tried-requires-clause-narrow : goal.put_tried-requires-clause-narrow
put_tried-requires-clause-narrow c =
    let m = c.args.marked.now in
    subst (λ (q : Problem). StandFor q.cases c.bring.new.self.narrow) (all_begun m.problem.now m.biases.now m.marks.now) c.in_ok-bring.ensures.brought

pub returns : goal.returns
returns c =
    let m = c.args.marked.now in
    let old : Ready = c.bring.new.self in
    let new : Ready = record { from = old.from; narrow = c.put_tried.new.narrow; was_searched = old.was_searched } in
    ready_settled m.problem.now m.biases.now m.marks.now (length m.marks.now) old new refl c.put_tried.ensures.idle
    (all_brought m.problem.now m.biases.now m.marks.now old.from old.narrow new.narrow c.in_ok-bring.ensures.from c.put_tried.ensures.none c.put_tried.ensures.narrow) c.in_ok-bring.ensures.ready
