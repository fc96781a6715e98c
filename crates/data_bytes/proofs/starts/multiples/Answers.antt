use Rattle.data_bytes.proofs.Starting.{size_power, multiples_are}
use Rattle.data_bytes.proofs.starts.multiples.Goals as goal

pub from_ranges-requires : goal.from_ranges-requires
from_ranges-requires c = size_power c.args.size c.requires

pub returns : goal.returns
returns c = multiples_are c.args.size c.in_ok-from_ranges.field-0 c.in_ok-from_ranges.ensures
