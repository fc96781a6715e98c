use Rattle.fd_narrow.proofs.Comparing.{none_stand}
use Rattle.fd_narrow.proofs.domains.Domains.has_no_standing.Goals as goal

pub returns : goal.returns
returns c = λ ruled_out. none_stand c.args.self.now c.args.op c.args.rels.now c.domain.result.now c.domain-2.result.now c.domain.ensures c.domain-2.ensures c.element_laws.ensures.words c.element_laws-2.ensures.words
    (c.is_ruled_out.ensures c.if-not-is_ruled_out.false) (c.is_ruled_out-2.ensures c.if-not-is_ruled_out-2.false) (c.is_ruled_out-3.ensures ruled_out)
