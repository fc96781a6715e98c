use Rattle.data_ways.proofs.Parted.{slice_is}
use Rattle.data_ways.proofs.walker.slice.Goals as goal

pub returns : goal.returns
returns c = slice_is c.args.level c.args.index c.pattern.result c.in_ok-slice.slice c.pattern.ensures c.in_ok-slice.ensures
