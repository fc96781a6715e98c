use Rattle.fd_narrow.specs.Internal.Steps.{IsValueIn, Leaves}
use Rattle.fd_narrow.specs.Internal.Writes.{IsLegalFrom}
use Rattle.fd_narrow.proofs.Operands.{sources_narrow}
use Rattle.fd_narrow.proofs.Outcomes.{on_ok}
use Rattle.fd_narrow.proofs.domains.Domains.cut_sources.Goals as goal

pub returns : goal.returns
returns c = on_ok c.cut.result (Leaves (IsValueIn c.args.slot c.in_ok-set.set) c.args.self.now c.cut.new.self) (Leaves (IsLegalFrom c.args.csr c.args.how c.args.zero c.args.slot c.args.other) c.args.self.now c.cut.new.self)
    (sources_narrow c.args.self.now c.cut.new.self c.args.csr c.args.how c.args.zero c.args.slot c.args.other c.known-known.result c.in_ok-set.set c.known-known.ensures.value c.known-known.ensures.word c.in_ok-set.ensures)
    c.cut.ensures
