use Rattle.std.proofs.Common.{arith}
use Rattle.fd_narrow.proofs.RowParts.{only_told}
use Rattle.fd_narrow.proofs.domains.Domains.only_possible.Goals as goal

pub returns : goal.returns
returns c = only_told c.args.self.now c.args.rows.now c.loop-row.row-index c.loop-row.only (omega (arith, c.loop-row-test.false)) c.loop-row.invariant
