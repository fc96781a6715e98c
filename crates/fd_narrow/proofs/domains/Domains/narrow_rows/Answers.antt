use Rattle.fd_narrow.proofs.RowParts.{part_taken}
use Rattle.fd_narrow.proofs.domains.Domains.narrow_rows.Goals as goal

pub loop-part-preserved : goal.loop-part-preserved
loop-part-preserved c = part_taken c.args.self.now c.loop-part.self c.take.new.self _ c.args.rows.now c.in_ok-rest.rest c.slot.result c.of.result.now c.slot.ensures c.of.ensures c.loop-part.invariant c.in_ok-rest.ensures c.in_ok-take.ensures
