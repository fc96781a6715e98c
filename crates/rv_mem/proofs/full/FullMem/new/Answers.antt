use Rattle.std.proofs.Common.{List, ap, ◌∙◌}
use Rattle.rv_mem.specs.declared.full.Block.{Block}
use Rattle.rv_mem.specs.Full.{blocks_at}
use Rattle.rv_mem.proofs.Blocks.{one_more}
use Rattle.rv_mem.proofs.full.FullMem.new.Goals as goal

pub loop-region-preserved : goal.loop-region-preserved
loop-region-preserved c = λ n.
    ap (λ (bs : List Block). blocks_at bs n) c.in_ok-push.ensures.items
    ∙ one_more c.loop-region.blocks.items c.in_ok-new.field-0 c.as_slice-region-items.result.now c.loop-region.region-index c.args.fill n (0, 0)
    c.loop-region-test.true (c.loop-region.invariant n) (c.in_ok-new.ensures n)
