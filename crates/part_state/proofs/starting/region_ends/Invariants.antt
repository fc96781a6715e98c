use Rattle.std.proofs.Common.{◌≡◌, take}
use Rattle.part_state.specs.Beginning.{ends_of}
use Rattle.part_state.proofs.starting.region_ends.Given as goal

abbrev pub invariant-loop-region : goal.invariant-loop-region
invariant-loop-region l = l.ends.items ≡ ends_of (take l.region-index l.fn.ram)
