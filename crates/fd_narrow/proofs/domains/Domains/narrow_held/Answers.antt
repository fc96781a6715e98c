use Rattle.std.proofs.Common.{IsTrue}
use Rattle.fd_prob.specs.Relations.{is_held}
use Rattle.fd_narrow.specs.Internal.Steps.{Leaves}
use Rattle.fd_narrow.proofs.Compositions.{followed}
use Rattle.fd_narrow.proofs.Outcomes.{on_ok}
use Rattle.fd_narrow.proofs.domains.Domains.narrow_held.Goals as goal

pub returns : goal.returns
returns c = on_ok c.narrow_entry.result (Leaves (λ x. IsTrue (is_held x c.args.index c.args.value c.args.table.now)) c.narrow_index.new.self c.narrow_entry.new.self) (Leaves (λ x. IsTrue (is_held x c.args.index c.args.value c.args.table.now)) c.args.self.now c.narrow_entry.new.self)
    (followed (λ x. IsTrue (is_held x c.args.index c.args.value c.args.table.now)) c.args.self.now c.narrow_index.new.self c.narrow_entry.new.self c.in_ok-narrow_index.ensures)
    c.narrow_entry.ensures
