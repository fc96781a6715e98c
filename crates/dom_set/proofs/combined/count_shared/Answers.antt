use Rattle.std.proofs.Common.{◌^◌, arith}
use Rattle.set_pieces.proofs.Times.{shared_rest, shared_done, shared_fits}
use Rattle.dom_set.proofs.combined.count_shared.Goals as goal

pub overflow_add-count : goal.overflow_add-count
overflow_add-count c =
    omega (
      arith,
      c.loop-q.invariant,
      c.count_both-count.ensures,
      shared_fits c.args.p c.args.others.now (2 ^ 32) c.requires,
      shared_rest c.args.p c.args.others.now c.loop-q.q-index c.q-item.result (2 ^ 32) c.loop-q-test.true c.q-item.is,
    )

pub loop-q-preserved : goal.loop-q-preserved
loop-q-preserved c =
    omega (
      arith,
      c.loop-q.invariant,
      c.count_both-count.ensures,
      shared_rest c.args.p c.args.others.now c.loop-q.q-index c.q-item.result (2 ^ 32) c.loop-q-test.true c.q-item.is,
    )

pub returns : goal.returns
returns c = omega (arith, c.loop-q.invariant, shared_done c.args.p c.args.others.now c.loop-q.q-index (2 ^ 32) c.loop-q-test.false)
