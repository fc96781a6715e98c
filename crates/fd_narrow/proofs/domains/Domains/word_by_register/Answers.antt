use Rattle.std.proofs.Common.{◌≡◌, false, Some}
use Rattle.fd_prob.specs.declared.problem.Assignment.{Assignment}
use Rattle.fd_prob.specs.declared.slot.Slot.TheVariants as slots
use Rattle.fd_prob.specs.Relations.{value_of}
use Rattle.fd_narrow.specs.Narrowing.{IsInside}
use Rattle.fd_narrow.specs.Internal.Writes.{by_register, written}
use Rattle.fd_narrow.proofs.Outcomes.{if_some}
use Rattle.fd_narrow.proofs.domains.Domains.word_by_register.Goals as goal

pub returns : goal.returns
returns c = if_some c.word_by_operand.result
    (λ w. (x : Assignment) → IsInside c.args.self.now x → written c.args.change false (value_of x slots.OldCsr) (value_of x slots.A) ≡ Some w)
    (λ w. (x : Assignment) → IsInside c.args.self.now x → by_register c.args.change x ≡ Some w)
    (λ w h x inside. rw (c.may_be_zero.ensures c.if-may_be_zero.false x inside) (h x inside))
    c.word_by_operand.ensures
