use Rattle.std.proofs.Common.{◌≤◌, ◌-◌, length}
use Rattle.case_search.proofs.easier.no_domains.Given as goal

abbrev pub invariant-loop-alloc : goal.invariant-loop-alloc
invariant-loop-alloc l = length l.made.items ≤ 14

abbrev pub decreases-loop-alloc : goal.decreases-loop-alloc
decreases-loop-alloc l = 14 - length l.made.items
