use Rattle.std.proofs.Common.{ℕ, List, take, drop, Option}
use Rattle.rv_mem.specs.Part.{part_at}
use Rattle.rv_script.specs.Memory.{memory_after}
use Rattle.tpl_ast.specs.declared.template.Region.{Region}
use Rattle.tpl_admit.specs.Races.{footprint_of}
use Rattle.replay_check.specs.Internal.Memory.{AreInWords, Shows}
use Rattle.replay_check.proofs.checking.do_all.Given as goal

abbrev pub invariant-loop-record : goal.invariant-loop-record
invariant-loop-record l = record {
  words : AreInWords (drop l.record-index l.records);
  shows : (ram : List Region) (given : ℕ → Option ℕ) (m : ℕ → ℕ) → Shows ram given m (part_at l.fn.memory) → Shows ram given (memory_after (footprint_of (take l.record-index l.records)) m) (part_at l.memory);
}
