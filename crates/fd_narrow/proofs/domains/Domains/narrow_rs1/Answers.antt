use Rattle.std.proofs.Common.{◌≡◌, IsTrue, length, arith}
use Rattle.fd_prob.specs.declared.slot.Slot.TheVariants as slots
use Rattle.fd_prob.specs.Relations.{is_none_or_legal}
use Rattle.fd_narrow.specs.Internal.Steps.{IsValueIn, Leaves}
use Rattle.fd_narrow.specs.Internal.Writes.{by_register}
use Rattle.fd_narrow.proofs.Operands.{rs1_narrows}
use Rattle.fd_narrow.proofs.Outcomes.{on_ok}
use Rattle.fd_narrow.proofs.domains.Domains.narrow_rs1.Goals as goal

pub returns : goal.returns
returns c =
    let none : length c.in_ok-left.left ≡ 0 = omega (arith, c.size-2.ensures.size, c.if-size-gt0.false) in
    on_ok c.cut.result (Leaves (IsValueIn slots.Rs1 c.in_ok-x0.x0) c.args.self.now c.cut.new.self) (Leaves (λ x. IsTrue (is_none_or_legal c.args.csr (by_register c.args.change x))) c.args.self.now c.cut.new.self)
    (rs1_narrows c.args.self.now c.cut.new.self c.args.csr c.by_operand.result c.args.change c.known-old.result c.in_ok-set.set c.domain-operands.result.now c.in_ok-left.left c.in_ok-x0.x0 c.by_operand.ensures c.known-old.ensures.value c.known-old.ensures.word c.in_ok-set.ensures c.domain-operands.ensures c.size.ensures.words c.in_ok-left.ensures none c.in_ok-x0.ensures)
    c.cut.ensures
