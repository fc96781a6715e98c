use Rattle.std.proofs.Common.{IsTrue}
use Rattle.fd_prob.specs.Relations.{is_same}
use Rattle.fd_narrow.specs.Internal.Steps.{IsValueIn, Leaves}
use Rattle.fd_narrow.proofs.Sameness.{same_narrows}
use Rattle.fd_narrow.proofs.Outcomes.{on_ok}
use Rattle.fd_narrow.proofs.domains.Domains.narrow_same.Goals as goal

pub returns : goal.returns
returns c = on_ok c.cut-2.result (Leaves (IsValueIn c.args.t c.in_ok-common.common) c.cut.new.self c.cut-2.new.self) (Leaves (λ x. IsTrue (is_same x c.args.s c.args.t)) c.args.self.now c.cut-2.new.self)
    (same_narrows c.args.self.now c.cut.new.self c.cut-2.new.self c.args.s c.args.t c.domain.result.now c.domain-2.result.now c.in_ok-common.common c.domain.ensures c.domain-2.ensures c.in_ok-common.ensures c.in_ok-cut.ensures)
    c.cut-2.ensures
