use Rattle.fd_narrow.specs.Narrowing.{Narrows}
use Rattle.fd_narrow.proofs.domains.Domains.narrow.Given as goal

abbrev pub invariant-loop : goal.invariant-loop
invariant-loop l = Narrows l.op l.rels l.initial.self l.self
