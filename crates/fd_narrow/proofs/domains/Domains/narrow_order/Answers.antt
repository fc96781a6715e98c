use Rattle.std.proofs.Common.{true, false}
use Rattle.fd_prob.specs.declared.slot.Slot.TheVariants as slots
use Rattle.fd_narrow.specs.Internal.Orders.{IsOrdered}
use Rattle.fd_narrow.specs.Internal.Steps.{Leaves}
use Rattle.fd_narrow.proofs.Compositions.{followed}
use Rattle.fd_narrow.proofs.Outcomes.{on_ok}
use Rattle.fd_narrow.proofs.domains.Domains.narrow_order.Goals as goal

pub returns-in_ok-cut_before : goal.returns-in_ok-cut_before
returns-in_ok-cut_before c = rw c.if-before.true (on_ok c.cut_after.result (Leaves (IsOrdered c.args.order slots.A slots.B true) c.cut_before.new.self c.cut_after.new.self) (Leaves (IsOrdered c.args.order slots.A slots.B true) c.args.self.now c.cut_after.new.self)
    (followed (IsOrdered c.args.order slots.A slots.B true) c.args.self.now c.cut_before.new.self c.cut_after.new.self c.in_ok-cut_before.ensures)
    c.cut_after.ensures)

pub returns-in_ok-cut_from : goal.returns-in_ok-cut_from
returns-in_ok-cut_from c = rw c.if-before.false (on_ok c.cut_to.result (Leaves (IsOrdered c.args.order slots.A slots.B false) c.cut_from.new.self c.cut_to.new.self) (Leaves (IsOrdered c.args.order slots.A slots.B false) c.args.self.now c.cut_to.new.self)
    (followed (IsOrdered c.args.order slots.A slots.B false) c.args.self.now c.cut_from.new.self c.cut_to.new.self c.in_ok-cut_from.ensures)
    c.cut_to.ensures)
