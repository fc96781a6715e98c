use Rattle.std.proofs.Common.{drop}
use Rattle.rv_mem.specs.Part.{part_at}
use Rattle.replay_check.proofs.Shown.{AreLeft, IsPut}
use Rattle.replay_check.proofs.memory.memory_of.Given as goal

abbrev pub invariant-loop-word : goal.invariant-loop-word
invariant-loop-word l = record {
  left : AreLeft l.fn.ram (drop l.word-index l.words);
  put : IsPut l.fn.ram l.words (drop l.word-index l.words) (part_at l.memory);
}
