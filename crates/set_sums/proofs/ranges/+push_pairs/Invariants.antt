use Rattle.std.proofs.Common.{◌+◌, length}
use Rattle.set_sums.proofs.ranges.+push_pairs.Given as goal

abbrev pub decreases-push_pairs : goal.decreases-push_pairs
decreases-push_pairs l = length l.firsts.now + length l.others.now
