use Rattle.std.proofs.Common.{false}
use Rattle.fd_prob.specs.declared.slot.Slot.TheVariants as slots
use Rattle.fd_narrow.specs.Internal.Steps.{Leaves}
use Rattle.fd_narrow.specs.Internal.Writes.{IsLegalFrom, IsLegalOperand}
use Rattle.fd_narrow.proofs.Operands.{old_narrows}
use Rattle.fd_narrow.proofs.Outcomes.{on_ok}
use Rattle.fd_narrow.proofs.domains.Domains.narrow_old.Goals as goal

pub returns : goal.returns
returns c = on_ok c.cut_sources.result (Leaves (IsLegalFrom c.args.csr c.by_old.result false slots.OldCsr c.args.slot) c.args.self.now c.cut_sources.new.self) (Leaves (IsLegalOperand c.args.csr c.args.change c.args.zero c.args.slot) c.args.self.now c.cut_sources.new.self)
    (old_narrows c.args.self.now c.cut_sources.new.self c.args.csr c.by_old.result c.args.change c.args.zero c.args.slot c.by_old.ensures (c.may_write_nothing.ensures c.if-may_write_nothing.false))
    c.cut_sources.ensures
