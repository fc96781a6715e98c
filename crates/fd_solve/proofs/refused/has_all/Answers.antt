use Rattle.fd_solve.proofs.Asking.{has_each}
use Rattle.fd_solve.proofs.refused.has_all.Goals as goal

pub returns : goal.returns
returns c all = has_each c.set_laws.ensures.pass c.set_laws.ensures.tests c.args.set.now c.in_ok-words.words c.in_ok-rest.rest c.in_ok-words.ensures c.in_ok-rest.ensures (c.is_empty.ensures.0 all)
