use Rattle.rv_mem.specs.Part.{part_at}
use Rattle.tpl_admit.specs.Starts.{trace_of, first_memory}
use Rattle.tpl_admit.specs.Races.{footprints_of}
use Rattle.tpl_admit.specs.Validity.{in_turn}
use Rattle.replay_check.specs.Internal.Memory.{ShowsOf}
use Rattle.replay_check.proofs.checking.end_memory.Given as goal

abbrev pub invariant-loop-k : goal.invariant-loop-k
invariant-loop-k l = ShowsOf l.cert (in_turn l.k (footprints_of (trace_of l.cert)) (first_memory l.cert)) (part_at l.memory)
