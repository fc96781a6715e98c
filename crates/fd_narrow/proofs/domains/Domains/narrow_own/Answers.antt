use Rattle.std.proofs.Common.{IsTrue}
use Rattle.fd_prob.specs.Relations.{is_held}
use Rattle.fd_narrow.specs.Internal.Steps.{IsValueOutside, Leaves}
use Rattle.fd_narrow.proofs.Entries.{own_narrows}
use Rattle.fd_narrow.proofs.Outcomes.{on_ok}
use Rattle.fd_narrow.proofs.domains.Domains.narrow_own.Goals as goal

pub returns : goal.returns
returns c = on_ok c.take.result (Leaves (IsValueOutside c.args.index c.in_ok-indices.indices) c.args.self.now c.take.new.self) (Leaves (λ x. IsTrue (is_held x c.args.index c.args.index c.args.table.now)) c.args.self.now c.take.new.self)
    (own_narrows c.args.self.now c.take.new.self c.args.index c.args.table.now c.in_ok-indices.indices c.in_ok-others.others.items c.in_ok-others.ensures (rw c.deref.ensures.value at c.in_ok-indices.ensures))
    c.take.ensures
