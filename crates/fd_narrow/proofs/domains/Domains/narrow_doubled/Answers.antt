use Rattle.std.proofs.Common.{IsTrue}
use Rattle.fd_prob.specs.Relations.{is_sum}
use Rattle.fd_narrow.specs.Internal.Steps.{IsValueIn, Leaves}
use Rattle.fd_narrow.proofs.Totals.{doubled_narrows}
use Rattle.fd_narrow.proofs.Outcomes.{on_ok}
use Rattle.fd_narrow.proofs.domains.Domains.narrow_doubled.Goals as goal

pub returns : goal.returns
returns c = on_ok c.cut.result (Leaves (IsValueIn c.args.s c.in_ok-parts.parts) c.narrow_total.new.self c.cut.new.self) (Leaves (λ x. IsTrue (is_sum x c.args.s c.args.s c.args.sum)) c.args.self.now c.cut.new.self)
    (doubled_narrows c.args.self.now c.narrow_total.new.self c.cut.new.self c.args.s c.args.sum c.domain.result.now c.in_ok-parts.parts c.domain.ensures c.in_ok-parts.ensures c.in_ok-narrow_total.ensures)
    c.cut.ensures
