use Rattle.std.proofs.Common.{arith}
use Rattle.set_pieces.proofs.Times.{total_rest, total_done, total_fits}
use Rattle.dom_set.proofs.lists.count_below.Goals as goal

pub overflow_add-count : goal.overflow_add-count
overflow_add-count c =
    omega (
      arith,
      c.loop-p.invariant,
      c.count_below-count.ensures,
      total_fits c.args.pieces.now c.args.x c.requires.apart,
      total_rest c.args.pieces.now c.loop-p.p-index c.p-item.result c.args.x c.loop-p-test.true c.p-item.is,
    )

pub loop-p-preserved : goal.loop-p-preserved
loop-p-preserved c =
    omega (
      arith,
      c.loop-p.invariant,
      c.count_below-count.ensures,
      total_rest c.args.pieces.now c.loop-p.p-index c.p-item.result c.args.x c.loop-p-test.true c.p-item.is,
    )

pub returns : goal.returns
returns c = omega (arith, c.loop-p.invariant, total_done c.args.pieces.now c.loop-p.p-index c.args.x c.loop-p-test.false)
