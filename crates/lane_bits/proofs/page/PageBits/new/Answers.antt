use Rattle.lane_bits.proofs.Words.{none_set}
use Rattle.lane_bits.proofs.page.PageBits.new.Goals as goal

pub returns : goal.returns
returns c x = none_set x
