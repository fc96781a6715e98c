use Rattle.fd_narrow.specs.Internal.Steps.{Leaves}
use Rattle.fd_narrow.specs.Internal.Writes.{IsLegalOperand}
use Rattle.fd_narrow.proofs.Compositions.{followed}
use Rattle.fd_narrow.proofs.Operands.{operand_narrows}
use Rattle.fd_narrow.proofs.Outcomes.{on_ok}
use Rattle.fd_narrow.proofs.domains.Domains.narrow_operand.Goals as goal

pub returns : goal.returns
returns c =
    let P = IsLegalOperand c.args.csr c.args.change c.args.zero c.args.slot in
    on_ok c.narrow_old.result (Leaves P c.cut_sources.new.self c.narrow_old.new.self) (Leaves P c.args.self.now c.narrow_old.new.self)
    (followed P c.args.self.now c.cut_sources.new.self c.narrow_old.new.self
    (operand_narrows c.args.self.now c.cut_sources.new.self c.args.csr c.by_operand.result c.args.change c.args.zero c.args.slot c.by_operand.ensures c.in_ok-cut_sources.ensures))
    c.narrow_old.ensures
