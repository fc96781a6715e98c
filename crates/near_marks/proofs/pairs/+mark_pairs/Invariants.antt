use Rattle.std.proofs.Common.{◌+◌, length}
use Rattle.near_marks.proofs.pairs.+mark_pairs.Given as goal

abbrev pub decreases-mark_pairs : goal.decreases-mark_pairs
decreases-mark_pairs l = length l.firsts.now + length l.others.now
