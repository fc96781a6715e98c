use Rattle.fd_solve.proofs.Asking.{without_none}
use Rattle.fd_solve.proofs.refused.less.Goals as goal

pub returns : goal.returns
returns c = without_none c.args.case.now c.in_ok-made.made c.args.slot c.args.set.now c.domain-domain.result.now c.in_ok-left.left c.requires.case c.requires.none c.domain-domain.ensures c.in_ok-left.ensures c.in_ok-made.ensures
