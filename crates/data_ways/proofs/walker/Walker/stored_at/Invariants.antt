use Rattle.std.proofs.Common.{◌&&◌, nat_lt}
use Rattle.data_bytes.specs.Sets.{IsSetOf}
use Rattle.data_bytes.specs.declared.starts.DataAccess.TheVariants.{Store}
use Rattle.data_ways.specs.declared.way.DataEnd.TheVariants.{At}
use Rattle.data_ways.specs.Internal.Barring.{is_stored}
use Rattle.data_ways.specs.Internal.Tables.{entry_of, index_at}
use Rattle.data_ways.proofs.walker.Walker.stored_at.Given as goal

abbrev pub invariant-loop-index : goal.invariant-loop-index
invariant-loop-index g l =
    IsSetOf (λ ea. nat_lt (index_at l.level ea) l.index && is_stored (g.M.Words.at l.self.memory.now) Store (At l.base l.mask) ea (entry_of l.level l.frame ea)) l.stored
