use Rattle.std.proofs.Common.{drop}
use Rattle.rv_mem.specs.Full.{full_at}
use Rattle.rv_system.proofs.Filled.{ArePut}
use Rattle.rv_system.proofs.starting.filled_memory.Given as goal

abbrev pub invariant-loop-word : goal.invariant-loop-word
invariant-loop-word l = ArePut l.fn.ram l.words (drop l.word-index l.words) l.fill (full_at l.memory)
