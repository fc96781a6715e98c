use Rattle.std.proofs.Common.{false, IsTrue}
use Rattle.fd_prob.specs.declared.slot.Slot.TheVariants as slots
use Rattle.fd_prob.specs.Relations.{is_none_or_legal}
use Rattle.fd_narrow.specs.Internal.Steps.{Leaves}
use Rattle.fd_narrow.specs.Internal.Writes.{IsLegalOperand, by_register}
use Rattle.fd_narrow.proofs.Operands.{register_narrows}
use Rattle.fd_narrow.proofs.Outcomes.{on_ok}
use Rattle.fd_narrow.proofs.domains.Domains.narrow_register.Goals as goal

pub returns : goal.returns
returns c = on_ok c.narrow_operand.result (Leaves (IsLegalOperand c.args.csr c.args.change false slots.A) c.args.self.now c.narrow_operand.new.self) (Leaves (λ x. IsTrue (is_none_or_legal c.args.csr (by_register c.args.change x))) c.args.self.now c.narrow_operand.new.self)
    (register_narrows c.args.self.now c.narrow_operand.new.self c.args.csr c.args.change (c.may_be_zero.ensures c.if-may_be_zero.false))
    c.narrow_operand.ensures
