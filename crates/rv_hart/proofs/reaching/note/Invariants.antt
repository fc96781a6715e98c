use Rattle.std.proofs.Common.{◌≡◌, ◌++◌, ◌+◌, ◌-◌, ◌≤◌, All, drop, length, map}
use Rattle.sv_walk.specs.Clauses.{AreAligned, entry_access}
use Rattle.rv_hart.specs.Effects.{IsInWord}
use Rattle.rv_hart.proofs.reaching.note.Given as goal

abbrev pub invariant-loop-entry : goal.invariant-loop-entry
invariant-loop-entry l = record {
  entries : l.log ++ map entry_access (drop l.entry-index l.entries) ≡ l.initial.log ++ map entry_access l.entries;
  room : length l.log + (length l.entries - l.entry-index) ≤ 8;
  aligned : AreAligned (drop l.entry-index l.entries);
  words : All IsInWord l.initial.log → All IsInWord l.log;
}
