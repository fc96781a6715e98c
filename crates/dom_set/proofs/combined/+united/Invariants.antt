use Rattle.std.proofs.Common.{length}
use Rattle.dom_set.proofs.combined.+united.Given as goal

abbrev pub decreases-united : goal.decreases-united
decreases-united l = length l.pieces.now
