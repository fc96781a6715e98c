use Rattle.std.proofs.Common.{◌/◌, ◌^◌, ◌&&◌}
use Rattle.row_parts.specs.Classes.{has_class}
use Rattle.data_ways.specs.Internal.Tables.{leads_on}
use Rattle.data_ways.proofs.Parted.{kinds_further}
use Rattle.data_ways.proofs.pointers.pointers_of.Goals as goal

pub loop-seen-preserved : goal.loop-seen-preserved
loop-seen-preserved c = λ test ea small.
    kinds_further (λ k. has_class c.args.table.now k (ea / 2 ^ 22) && leads_on k test) c.args.kinds.now c.loop-seen.seen-index _ _ _ (c.in_ok-push_pointer.ensures test ea small) (c.loop-seen.invariant test ea small) c.loop-seen-test.true
