use Rattle.std.proofs.Common.{◌≡◌, drop}
use Rattle.std.specs.List.{list_any}
use Rattle.tpl_admit.specs.Admitting.{fixes_outcome}
use Rattle.leaf_turn.proofs.wishes.fix_outcome.Given as goal

abbrev pub invariant-loop-wish : goal.invariant-loop-wish
invariant-loop-wish l = list_any fixes_outcome (drop l.wish-index l.wishes) ≡ list_any fixes_outcome l.wishes
