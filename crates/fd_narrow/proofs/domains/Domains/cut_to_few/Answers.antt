use Rattle.fd_narrow.proofs.Replacing.{cut_step}
use Rattle.fd_narrow.proofs.domains.Domains.cut_to_few.Goals as goal

pub returns-then-pieces-max : goal.returns-then-pieces-max
returns-then-pieces-max c = cut_step c.args.self.now c.set.new.self c.args.slot c.domain-domain.result.now c.args.set.now c.in_ok-left.left c.count.ensures.length c.domain-domain.ensures c.element_laws.ensures.words c.in_ok-left.ensures c.set.ensures
