use Rattle.std.proofs.Common.{◌≡◌, drop}
use Rattle.std.specs.List.{list_any}
use Rattle.leaf_turn.specs.Built.{may_be_data}
use Rattle.leaf_turn.proofs.built.some_is_data.Given as goal

abbrev pub invariant-loop-op : goal.invariant-loop-op
invariant-loop-op l = list_any (may_be_data l.wishes) (drop l.op-index l.ops) ≡ list_any (may_be_data l.wishes) l.ops
