use Rattle.std.proofs.Common.{◌^◌, ◌<◌}
use Rattle.fd_prob.specs.Relations.{value_of}
use Rattle.set_sums.proofs.Members.{element}
use Rattle.fd_narrow.proofs.Totals.{there}
use Rattle.fd_narrow.proofs.domains.Domains.known.Goals as goal

pub returns-clause-word : goal.returns-clause-word
returns-clause-word c x inside = element (λ v. v < 2 ^ 32) c.domain.result.now (value_of x c.args.slot) c.element_laws.ensures.words (there c.args.self.now c.args.slot c.domain.result.now x c.domain.ensures inside)
