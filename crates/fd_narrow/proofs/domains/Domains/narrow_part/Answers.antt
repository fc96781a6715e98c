use Rattle.std.proofs.Common.{ℕ, List, IsTrue, subst}
use Rattle.std.specs.Prelude.{OnOk}
use Rattle.fd_prob.specs.Relations.{is_sum}
use Rattle.fd_narrow.specs.Internal.Steps.{IsValueIn, Leaves}
use Rattle.fd_narrow.proofs.Totals.{part_narrows}
use Rattle.fd_narrow.proofs.Outcomes.{on_ok}
use Rattle.fd_narrow.proofs.domains.Domains.narrow_part.Goals as goal

pub returns : goal.returns
returns c =
    let now = c.args.self.now in
    on_ok c.cut.result (Leaves (IsValueIn c.args.of.s c.in_ok-parts.parts) now c.cut.new.self) (Leaves (λ x. IsTrue (is_sum x c.args.of.s c.args.of.t c.args.of.sum)) now c.cut.new.self)
    (part_narrows now c.cut.new.self c.args.of.s c.args.of.t c.args.of.sum c.domain.result.now c.domain-2.result.now c.domain-3.result.now c.in_ok-parts.parts c.domain.ensures c.domain-2.ensures c.domain-3.ensures c.in_ok-parts.ensures)
    c.cut.ensures
