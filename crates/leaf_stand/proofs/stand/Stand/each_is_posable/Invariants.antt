use Rattle.std.proofs.Common.{◌≡◌, drop}
use Rattle.std.specs.List.{list_all}
use Rattle.leaf_stand.specs.Posed.{is_posable}
use Rattle.leaf_stand.proofs.stand.Stand.each_is_posable.Given as goal

abbrev pub invariant-loop-op : goal.invariant-loop-op
invariant-loop-op l = list_all (is_posable l.self l.leaf) (drop l.op-index l.ops) ≡ list_all (is_posable l.self l.leaf) l.ops
