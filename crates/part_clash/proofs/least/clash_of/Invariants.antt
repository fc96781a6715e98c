use Rattle.std.proofs.Common.{take}
use Rattle.foot_map.specs.Touches.{has}
use Rattle.part_clash.specs.Internal.Parts.{IsLeastWith, IsAccessClash}
use Rattle.part_clash.proofs.least.clash_of.Given as goal

abbrev pub invariant-loop-y : goal.invariant-loop-y
invariant-loop-y l = IsLeastWith (IsAccessClash (has l.feet) l.hart (take l.y-index l.accesses) l.x) l.best
