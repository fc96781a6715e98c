use Rattle.std.proofs.Common.{sym, subst}
use Rattle.std.specs.List.Sorted.{IsNonDecreasingBy}
use Rattle.dom_set.proofs.Merging.{front_is}
use Rattle.dom_set.proofs.pairs.merged.Goals as goal

pub merged_from-requires-clause-sorted : goal.merged_from-requires-clause-sorted
merged_from-requires-clause-sorted c =
    subst (IsNonDecreasingBy (λ p. p.run.low)) (sym (front_is c.args.sorted.now c.first-item.result c.in-len1-up.len_at_least c.first-item.is)) c.requires.sorted
