use Rattle.fd_narrow.specs.Internal.Steps.{IsAnother, IsValueOutside, Leaves}
use Rattle.fd_narrow.proofs.Sameness.{value_taken}
use Rattle.fd_narrow.proofs.Outcomes.{on_ok}
use Rattle.fd_narrow.proofs.domains.Domains.take_value.Goals as goal

pub returns : goal.returns
returns c = on_ok c.take.result (Leaves (IsValueOutside c.args.slot c.in_ok-one.one) c.args.self.now c.take.new.self) (Leaves (IsAnother c.args.slot c.args.value) c.args.self.now c.take.new.self)
    (value_taken c.args.self.now c.take.new.self c.args.slot c.args.value c.in_ok-one.one c.in_ok-one.ensures)
    c.take.ensures
