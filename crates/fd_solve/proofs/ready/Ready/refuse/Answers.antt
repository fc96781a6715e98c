use Rattle.std.proofs.Common.{length, refl, subst, ◌-◌}
use Rattle.fd_solve.specs.Internal.Equivalent.{StandFor}
use Rattle.fd_solve.specs.Internal.Marks.{begun_of}
use Rattle.fd_solve.specs.declared.marked.Marked.{Marked}
use Rattle.fd_solve.specs.declared.ready.Ready.{Ready}
use Rattle.fd_solve.proofs.FirstMarks.{ready_settled}
use Rattle.fd_solve.proofs.ready.Ready.refuse.Goals as goal

pub returns : goal.returns
returns c =
    let m = c.args.marked.now in
    let old : Ready = c.args.self.now in
    let new : Ready = record { from = old.from; narrow = c.refuse.new.narrow; was_searched = old.was_searched } in
    ready_settled m.problem.now m.biases.now m.marks.now (length m.marks.now - 1) old new refl c.in_ok-refuse.ensures.idle (subst (λ (n : Marked). StandFor (begun_of n).cases c.refuse.new.narrow) c.begun-rest.ensures c.in_ok-refuse.ensures.narrow) c.requires.ready
