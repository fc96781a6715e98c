use Rattle.std.proofs.Common.{arith}
use Rattle.std.specs.Int.{w64}
use Rattle.std.proofs.lemmas.Nat.Bits.{bit_at-trailing_zeros}
use Rattle.lane_bits.proofs.page.lowest.Goals as goal

pub returns-else-word-eq0-clause-set : goal.returns-else-word-eq0-clause-set
returns-else-word-eq0-clause-set c = (bit_at-trailing_zeros w64 c.args.word (omega arith) c.ranges.word.fits).1

pub returns-else-word-eq0-clause-clear : goal.returns-else-word-eq0-clause-clear
returns-else-word-eq0-clause-clear c = (bit_at-trailing_zeros w64 c.args.word (omega arith) c.ranges.word.fits).2
