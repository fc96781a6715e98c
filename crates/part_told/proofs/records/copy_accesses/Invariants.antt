use Rattle.std.proofs.Common.{◌≡◌, ◌≤◌, take, length}
use Rattle.part_told.proofs.records.copy_accesses.Given as goal

abbrev pub invariant-loop-access : goal.invariant-loop-access
invariant-loop-access l = record {
  made : l.made ≡ take l.access-index l.accesses;
  room : length l.accesses ≤ 8;
}
