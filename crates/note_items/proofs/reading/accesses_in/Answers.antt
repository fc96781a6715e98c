use Rattle.std.proofs.Common.{arith}
use Rattle.std.proofs.lemmas.List.{length-append}
use Rattle.std.proofs.lemmas.Result.{err_from_is_err_and}
use Rattle.byte_format.specs.Internal.Readers.{times}
use Rattle.byte_format.proofs.Loop.{goes_on, ends, is_done}
use Rattle.note_items.specs.Internal.Readers.{access_at}
use Rattle.note_items.proofs.reading.accesses_in.Goals as goal

pub returns-in_err-item-clause-gives : goal.returns-in_err-item-clause-gives
returns-in_err-item-clause-gives c =
    let p = err_from_is_err_and c.from_residual.result c.from_residual.ensures.1 in
    rw (p.1, p.2) (ends access_at c.in_err-item.field-0.0 c.loop.items c.args.count c.loop.counter c.loop.rest.now (times access_at c.args.count c.args.bytes.now) c.loop-test.true c.in_err-item.ensures.gives c.loop.invariant.0)

pub loop-preserved : goal.loop-preserved
loop-preserved c = (
  rw c.push.ensures (goes_on access_at c.loop.items c.args.count c.loop.counter c.loop.rest.now c.in_ok-item.item c.in_ok-item.behind.now (times access_at c.args.count c.args.bytes.now) c.loop-test.true c.in_ok-item.ensures.gives c.loop.invariant.0),
  rw c.push.ensures (simp length-append (omega arith)),
)

pub returns-clause-gives : goal.returns-clause-gives
returns-clause-gives c = is_done access_at c.loop.items c.args.count c.loop.counter c.loop.rest.now (times access_at c.args.count c.args.bytes.now) c.loop-test.false c.loop.invariant.0
