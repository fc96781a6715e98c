use Rattle.std.proofs.Common.{IsTrue, not}
use Rattle.fd_prob.specs.Relations.{is_same}
use Rattle.fd_narrow.specs.Internal.Steps.{Leaves}
use Rattle.fd_narrow.proofs.Compositions.{followed}
use Rattle.fd_narrow.proofs.Sameness.{different_turned}
use Rattle.fd_narrow.proofs.Outcomes.{on_ok}
use Rattle.fd_narrow.proofs.domains.Domains.narrow_different.Goals as goal

pub returns : goal.returns
returns c = on_ok c.take_single-2.result (Leaves (λ x. IsTrue (not (is_same x c.args.t c.args.s))) c.take_single.new.self c.take_single-2.new.self) (Leaves (λ x. IsTrue (not (is_same x c.args.s c.args.t))) c.args.self.now c.take_single-2.new.self)
    (λ h. followed (λ x. IsTrue (not (is_same x c.args.s c.args.t))) c.args.self.now c.take_single.new.self c.take_single-2.new.self c.in_ok-take_single.ensures (different_turned c.take_single.new.self c.take_single-2.new.self c.args.s c.args.t h))
    c.take_single-2.ensures
