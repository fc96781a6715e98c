use Rattle.std.proofs.Common.{arith}
use Rattle.std.proofs.lemmas.Result.{err_from_is_err_and}
use Rattle.byte_format.specs.Internal.Readers.{chain_at}
use Rattle.byte_format.proofs.Loop.{chain_goes_on, chain_ends, chain_is_done}
use Rattle.elf_headers.specs.Internal.Readers.{next_offset, load_at}
use Rattle.elf_headers.proofs.reading.loads_of.Goals as goal

pub returns-in_err-item : goal.returns-in_err-item
returns-in_err-item c =
    let p = err_from_is_err_and c.from_residual.result c.from_residual.ensures.1 in
    rw (p.1, p.2) (chain_ends next_offset load_at c.in_err-item.field-0.0 c.loop.items c.args.count c.loop.counter c.loop.offset c.loop.rest.now (chain_at next_offset load_at c.args.count c.args.start c.args.bytes.now) c.loop-test.true c.in_err-item.ensures.gives c.loop.invariant.0)

pub loop-preserved : goal.loop-preserved
loop-preserved c =
    (rw (c.in_ok-push.ensures.ok, c.from.ensures) (chain_goes_on next_offset load_at c.loop.items c.args.count c.loop.counter c.loop.offset c.loop.rest.now c.in_ok-item.item c.in_ok-item.behind.now (chain_at next_offset load_at c.args.count c.args.start c.args.bytes.now) c.loop-test.true c.in_ok-item.ensures.gives c.loop.invariant.0), omega (arith, c.in_ok-item.ensures.small))

pub returns : goal.returns
returns c = chain_is_done next_offset load_at c.loop.items c.args.count c.loop.counter c.loop.offset c.loop.rest.now (chain_at next_offset load_at c.args.count c.args.start c.args.bytes.now) c.loop-test.false c.loop.invariant.0

pub overflow_add-offset : goal.overflow_add-offset
overflow_add-offset c = omega (arith, c.in_ok-item.ensures.small)
