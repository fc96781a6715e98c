use Rattle.std.proofs.Common.{IsTrue, not, length, ap}
use Rattle.fd_prob.specs.Relations.{is_linked, is_same}
use Rattle.fd_prob.specs.declared.slot.Slot.TheVariants as slots
use Rattle.fd_narrow.specs.Internal.Steps.{Leaves}
use Rattle.fd_narrow.proofs.Sameness.{linked_apart}
use Rattle.fd_narrow.proofs.Outcomes.{on_ok}
use Rattle.fd_narrow.proofs.domains.Domains.narrow_linked.Goals as goal

pub returns-then-is_empty : goal.returns-then-is_empty
returns-then-is_empty c = on_ok c.narrow_different.result (Leaves (λ x. IsTrue (not (is_same x slots.Rs1 slots.Rs2))) c.args.self.now c.narrow_different.new.self) (Leaves (λ x. IsTrue (is_linked x)) c.args.self.now c.narrow_different.new.self)
    (linked_apart c.args.self.now c.narrow_different.new.self c.domain.result.now c.domain-2.result.now c.in_ok-common.common c.domain.ensures c.domain-2.ensures c.in_ok-common.ensures (ap length (c.is_empty.ensures.0 c.if-is_empty.true)))
    c.narrow_different.ensures
