use Rattle.std.proofs.Common.{ap, ◌==◌, ◌∙◌, List, find}
use Rattle.fd_prob.specs.declared.problem.Case.{Case}
use Rattle.fd_solve.proofs.Pivoting.{are_pivots}
use Rattle.fd_solve.proofs.pivots.pivots_of.Goals as goal

pub returns : goal.returns
returns c =
    let found = c.in_ok-first.ensures.first ∙ ap (λ (cs : List Case). find (λ (k : Case). k.op == c.args.op) cs) c.as_slice.ensures in
    are_pivots c.args.p.now c.args.op c.args.pivot c.in_ok-first.first.now c.pivots_in.result c.requires.pivot found c.pivots_in.ensures.operation c.pivots_in.ensures.others
