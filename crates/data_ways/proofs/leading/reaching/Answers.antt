use Rattle.std.proofs.Common.{arith}
use Rattle.data_ways.proofs.Reached.{reaching_is}
use Rattle.data_ways.proofs.leading.reaching.Goals as goal

pub returns : goal.returns
returns c = λ ea small.
    reaching_is c.args.base c.args.mask ea c.wrapping_neg.result c.args.bytes.now c.in_ok-near.near c.in_ok-offsets.offsets c.in_ok-leading.leading c.ranges.base.fits small (omega (arith, c.wrapping_neg.type_inv)) c.wrapping_neg.ensures c.in_ok-near.ensures c.in_ok-offsets.ensures c.in_ok-leading.ensures
