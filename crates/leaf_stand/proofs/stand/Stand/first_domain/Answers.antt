use Rattle.leaf_stand.specs.Internal.FirstCases.{first_at}
use Rattle.leaf_stand.proofs.Sets.{word_domain}
use Rattle.leaf_stand.proofs.stand.Stand.first_domain.Goals as goal

pub returns : goal.returns
returns c = word_domain c.in_ok-set.set (first_at c.args.self.now c.args.leaf.now c.args.op c.args.slot) c.element_laws.ensures.ascending c.element_laws.ensures.words c.in_ok-set.ensures
