use Rattle.std.proofs.Common.{IsTrue}
use Rattle.fd_prob.specs.Relations.{is_sum}
use Rattle.fd_narrow.specs.Internal.Steps.{IsValueIn, Leaves}
use Rattle.fd_narrow.proofs.Totals.{total_narrows}
use Rattle.fd_narrow.proofs.Outcomes.{on_ok}
use Rattle.fd_narrow.proofs.domains.Domains.narrow_total.Goals as goal

pub returns : goal.returns
returns c = on_ok c.cut.result (Leaves (IsValueIn c.args.of.sum c.in_ok-totals.totals) c.args.self.now c.cut.new.self) (Leaves (λ x. IsTrue (is_sum x c.args.of.s c.args.of.t c.args.of.sum)) c.args.self.now c.cut.new.self)
    (total_narrows c.args.self.now c.cut.new.self c.args.of.s c.args.of.t c.args.of.sum c.domain.result.now c.domain-2.result.now c.domain-3.result.now c.in_ok-totals.totals c.domain.ensures c.domain-2.ensures c.domain-3.ensures c.in_ok-totals.ensures)
    c.cut.ensures
