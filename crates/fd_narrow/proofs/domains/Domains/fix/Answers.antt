use Rattle.std.proofs.Common.{◌≡◌}
use Rattle.fd_prob.specs.Relations.{value_of}
use Rattle.fd_narrow.specs.Internal.Steps.{IsValueIn, Leaves}
use Rattle.fd_narrow.proofs.Entries.{one_narrows}
use Rattle.fd_narrow.proofs.Outcomes.{on_ok}
use Rattle.fd_narrow.proofs.domains.Domains.fix.Goals as goal

pub returns : goal.returns
returns c = on_ok c.cut.result (Leaves (IsValueIn c.args.slot c.in_ok-one.one) c.args.self.now c.cut.new.self) (Leaves (λ x. value_of x c.args.slot ≡ c.args.value) c.args.self.now c.cut.new.self)
    (one_narrows c.args.self.now c.cut.new.self c.args.slot c.args.value c.in_ok-one.one c.in_ok-one.ensures)
    c.cut.ensures
