use Rattle.std.proofs.Common.{IsTrue, length, ◌≡◌, arith}
use Rattle.fd_prob.specs.Relations.{is_held}
use Rattle.fd_narrow.specs.Internal.Steps.{IsValueIn, Leaves}
use Rattle.fd_narrow.proofs.Entries.{entry_narrows}
use Rattle.fd_narrow.proofs.Outcomes.{on_ok}
use Rattle.fd_narrow.proofs.domains.Domains.narrow_entry.Goals as goal

pub returns : goal.returns
returns c =
    let none : length c.in_ok-missing.missing ≡ 0 = omega (arith, c.size.ensures.size, c.if-size-gt0.false) in
    on_ok c.cut.result (Leaves (IsValueIn c.args.value c.in_ok-values.values) c.args.self.now c.cut.new.self) (Leaves (λ x. IsTrue (is_held x c.args.index c.args.value c.args.table.now)) c.args.self.now c.cut.new.self)
    (entry_narrows c.args.self.now c.cut.new.self c.args.index c.args.value c.args.table.now c.domain-2.result.now c.in_ok-found.found c.in_ok-missing.missing c.in_ok-values.values c.in_ok-entries.entries.indices.items c.in_ok-entries.entries.values.items c.domain-2.ensures c.in_ok-entries.ensures (rw c.deref.ensures.value at c.in_ok-found.ensures) c.in_ok-missing.ensures none (rw c.deref-2.ensures.value at c.in_ok-values.ensures))
    c.cut.ensures
