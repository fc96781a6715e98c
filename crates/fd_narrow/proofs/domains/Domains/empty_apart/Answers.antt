use Rattle.std.proofs.Common.{IsTrue}
use Rattle.dom_set.specs.Elements.{is_in}
use Rattle.fd_prob.specs.Relations.{value_of}
use Rattle.fd_narrow.proofs.Compositions.{emptied}
use Rattle.fd_narrow.proofs.domains.Domains.empty_apart.Goals as goal

pub returns-then-is_apart : goal.returns-then-is_apart
returns-then-is_apart c = emptied (λ x. IsTrue (is_in c.args.set.now (value_of x c.args.slot))) c.args.self.now c.empty.new.self (c.is_apart.ensures c.if-is_apart.true) c.empty.ensures
