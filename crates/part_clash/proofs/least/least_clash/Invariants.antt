use Rattle.std.proofs.Common.{take}
use Rattle.foot_map.specs.Touches.{has}
use Rattle.part_clash.specs.Internal.Parts.{IsLeastWith}
use Rattle.part_clash.proofs.Steps.{IsAmongClash}
use Rattle.part_clash.proofs.least.least_clash.Given as goal

abbrev pub invariant-loop-x : goal.invariant-loop-x
invariant-loop-x l = IsLeastWith (IsAmongClash (has l.feet) l.hart l.accesses (take l.x-index l.accesses)) l.best
