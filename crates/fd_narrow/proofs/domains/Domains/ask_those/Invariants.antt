use Rattle.fd_narrow.specs.Narrowing.{Narrows}
use Rattle.fd_narrow.proofs.domains.Domains.ask_those.Given as goal

abbrev pub invariant-loop-number : goal.invariant-loop-number
invariant-loop-number l = Narrows l.op l.rels l.initial.self l.self
