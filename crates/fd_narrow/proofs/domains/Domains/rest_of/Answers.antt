use Rattle.fd_narrow.specs.Internal.Parts.{part_of}
use Rattle.fd_narrow.proofs.RowParts.{missed_more}
use Rattle.fd_narrow.proofs.domains.Domains.rest_of.Goals as goal

pub loop-row-preserved : goal.loop-row-preserved
loop-row-preserved c = λ part. missed_more c.args.self.now part c.args.rows.now c.loop-row.row-index c.row-item.result (part_of part c.loop-row.rest) (part_of part c.in_ok-rest-2.rest) c.loop-row-test.true c.row-item.is (c.loop-row.invariant part) (c.in_ok-rest-2.ensures part)
