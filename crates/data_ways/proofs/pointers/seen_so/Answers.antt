use Rattle.data_ways.proofs.Parted.{seen_is}
use Rattle.data_ways.proofs.pointers.seen_so.Goals as goal

pub returns : goal.returns
returns c = seen_is c.args.table.now c.args.seen c.in_ok-all.all c.in_ok-class.class c.in_ok-all.ensures c.in_ok-class.ensures
