use Rattle.set_sums.proofs.Wanted.{both_wanted}
use Rattle.set_sums.proofs.sums.of_wholes.Goals as goal

pub returns : goal.returns
returns c = both_wanted c.args.wanted c.args.first.now c.args.second.now c.args.domain.now c.in_ok-around.around c.in_ok-classes.classes c.in_ok-found.found c.in_ok-around.ensures c.in_ok-classes.ensures c.in_ok-found.ensures
