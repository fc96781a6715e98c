use Rattle.std.proofs.Common.{◌≡◌, ℕ, ◌<◌, length, get_or}
use Rattle.rv_hart.specs.declared.hart.Hart.{Hart}
use Rattle.tpl_admit.specs.Starts.{trace_of}
use Rattle.replay_check.specs.Failures.{HartIsRight}
use Rattle.replay_check.specs.Internal.Memory.{AreInWords}
use Rattle.replay_check.specs.Internal.Replay.{EndsAs}
use Rattle.replay_check.proofs.checking.all_alone.Given as goal

abbrev pub invariant-loop-k : goal.invariant-loop-k
invariant-loop-k l = record {
  count : length l.harts.items ≡ l.k;
  right : (j : ℕ) → j < l.k → HartIsRight l.cert j;
  ends : (j : ℕ) (d : Hart) → j < l.k → EndsAs l.cert j (get_or l.harts.items j d);
  words : (j : ℕ) → j < l.k → AreInWords (trace_of l.cert j);
}
