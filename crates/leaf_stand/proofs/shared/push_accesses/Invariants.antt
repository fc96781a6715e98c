use Rattle.tpl_admit.specs.Truth.{touches}
use Rattle.leaf_stand.proofs.Blocks.{IsSoFar}
use Rattle.leaf_stand.proofs.shared.push_accesses.Given as goal

abbrev pub invariant-loop-access : goal.invariant-loop-access
invariant-loop-access l = IsSoFar (λ a v. touches v a) l.accesses l.access-index l.fn.spans.items l.spans.items
