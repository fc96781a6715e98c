use Rattle.std.proofs.Common.{◌≡◌, drop}
use Rattle.tpl_admit.specs.Starts.{lookup}
use Rattle.tpl_admit.proofs.moment.find.Given as goal

abbrev pub invariant-loop-pair : goal.invariant-loop-pair
invariant-loop-pair l = lookup (drop l.pair-index l.pairs) l.key ≡ lookup l.pairs l.key
