use Rattle.word_sets.proofs.Ranks.{signed_ranks}
use Rattle.word_sets.proofs.orders.ranks.Goals as goal

pub returns-in_ok-ranks-in-Signed : goal.returns-in_ok-ranks-in-Signed
returns-in_ok-ranks-in-Signed c = rw c.in-Signed.is (signed_ranks c.args.set.now c.in_ok-ranks-in-Signed.ranks c.requires c.in_ok-ranks-in-Signed.ensures)
