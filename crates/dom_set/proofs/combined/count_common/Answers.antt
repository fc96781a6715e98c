use Rattle.std.proofs.Common.{◌^◌, arith}
use Rattle.set_pieces.proofs.Times.{common_rest, common_done, common_fits}
use Rattle.dom_set.proofs.combined.count_common.Goals as goal

pub overflow_add-count : goal.overflow_add-count
overflow_add-count c =
    omega (
      arith,
      c.loop-p.invariant,
      c.count_shared-count.ensures,
      common_fits c.args.pieces.now c.args.others.now (2 ^ 32) c.requires.apart c.requires.others,
      common_rest c.args.pieces.now c.args.others.now c.loop-p.p-index c.p-item.result (2 ^ 32) c.loop-p-test.true c.p-item.is,
    )

pub loop-p-preserved : goal.loop-p-preserved
loop-p-preserved c =
    omega (
      arith,
      c.loop-p.invariant,
      c.count_shared-count.ensures,
      common_rest c.args.pieces.now c.args.others.now c.loop-p.p-index c.p-item.result (2 ^ 32) c.loop-p-test.true c.p-item.is,
    )

pub returns : goal.returns
returns c = omega (arith, c.loop-p.invariant, common_done c.args.pieces.now c.args.others.now c.loop-p.p-index (2 ^ 32) c.loop-p-test.false)
