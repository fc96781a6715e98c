use Rattle.fd_narrow.proofs.Replacing.{take_step}
use Rattle.fd_narrow.proofs.domains.Domains.take.Goals as goal

pub returns-in_ok-left : goal.returns-in_ok-left
returns-in_ok-left c = take_step c.args.self.now c.set.new.self c.args.slot c.domain-domain.result.now c.args.set.now c.in_ok-left.left c.count.ensures.length c.domain-domain.ensures c.element_laws.ensures.words c.in_ok-left.ensures c.set.ensures
