use Rattle.std.proofs.lemmas.Result.{err_from_is_err_and}
use Rattle.byte_format.specs.Internal.Readers.{times}
use Rattle.byte_format.proofs.Loop.{goes_on, ends, is_done}
use Rattle.note_items.specs.Internal.Readers.{pair_at}
use Rattle.note_items.proofs.reading.pairs_in.Goals as goal

pub returns-in_err-item : goal.returns-in_err-item
returns-in_err-item c =
    let p = err_from_is_err_and c.from_residual.result c.from_residual.ensures.1 in
    rw (p.1, p.2) (ends pair_at c.in_err-item.field-0.0 c.loop.items c.args.count c.loop.counter c.loop.rest.now (times pair_at c.args.count c.args.bytes.now) c.loop-test.true c.in_err-item.ensures.gives c.loop.invariant)

pub loop-preserved : goal.loop-preserved
loop-preserved c =
    rw c.in_ok-push.ensures.ok (goes_on pair_at c.loop.items c.args.count c.loop.counter c.loop.rest.now c.in_ok-item.item c.in_ok-item.behind.now (times pair_at c.args.count c.args.bytes.now) c.loop-test.true c.in_ok-item.ensures.gives c.loop.invariant)

pub returns : goal.returns
returns c = is_done pair_at c.loop.items c.args.count c.loop.counter c.loop.rest.now (times pair_at c.args.count c.args.bytes.now) c.loop-test.false c.loop.invariant
