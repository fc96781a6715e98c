use Rattle.std.proofs.Common.{◌||◌}
use Rattle.dom_set.specs.Elements.{is_in}
use Rattle.data_bytes.proofs.Sets.{elements_are}
use Rattle.data_ways.proofs.walker.joined.Goals as goal

pub returns : goal.returns
returns c = elements_are (λ v. is_in c.args.first v || is_in c.args.second.now v) c.in_ok-both.both c.in_ok-both.ensures
