use Rattle.std.proofs.Common.{List, ℕ, Option, subst}
use Rattle.data_goals.specs.Goals.{IsCut}
use Rattle.leaf_csrs.proofs.Counted.{in_both}
use Rattle.leaf_csrs.proofs.usage.both.Goals as goal

pub returns : goal.returns
returns c = λ p q h k. in_both p q c.in-Some.set c.in-Some-second.other c.in_ok-left.left (subst (λ (o : Option (List ℕ)). IsCut p o) c.in-Some.is h) (subst (λ (o : Option (List ℕ)). IsCut q o) c.in-Some-second.is k) c.in_ok-left.ensures
