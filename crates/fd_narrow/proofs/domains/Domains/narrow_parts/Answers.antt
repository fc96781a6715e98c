use Rattle.std.proofs.Common.{IsTrue}
use Rattle.fd_prob.specs.Relations.{is_sum}
use Rattle.fd_narrow.specs.Internal.Steps.{Leaves}
use Rattle.fd_narrow.proofs.Totals.{sum_narrows}
use Rattle.fd_narrow.proofs.Outcomes.{on_ok}
use Rattle.fd_narrow.proofs.domains.Domains.narrow_parts.Goals as goal

pub returns : goal.returns
returns c = on_ok c.narrow_touched-2.result (Leaves (λ x. IsTrue (is_sum x c.args.of.t c.args.of.s c.args.of.sum)) c.narrow_touched.new.self c.narrow_touched-2.new.self) (Leaves (λ x. IsTrue (is_sum x c.args.of.s c.args.of.t c.args.of.sum)) c.args.self.now c.narrow_touched-2.new.self)
    (sum_narrows c.args.self.now c.narrow_total.new.self c.narrow_touched.new.self c.narrow_touched-2.new.self c.args.of.s c.args.of.t c.args.of.sum c.in_ok-narrow_total.ensures c.in_ok-narrow_touched.ensures)
    c.narrow_touched-2.ensures
