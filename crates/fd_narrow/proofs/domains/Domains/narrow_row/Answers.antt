use Rattle.fd_narrow.proofs.RowParts.{part_narrowed}
use Rattle.fd_narrow.proofs.domains.Domains.narrow_row.Goals as goal

pub loop-part-preserved : goal.loop-part-preserved
loop-part-preserved c = part_narrowed c.args.self.now c.loop-part.self c.narrow_in.new.self _ c.args.row.now c.slot.result c.of.result.now c.slot.ensures c.of.ensures c.loop-part.invariant c.in_ok-narrow_in.ensures
