use Rattle.std.proofs.Common.{◌≡◌, length}
use Rattle.std.specs.List.{AllByRecursion}
use Rattle.std.specs.Vec.{vec_len, vec_capacity}
use Rattle.rv_hart.specs.Clauses.{IsFitRecord}
use Rattle.rv_mem.specs.Full.{full_at}
use Rattle.tpl_admit.specs.System.{System}
use Rattle.rv_system.specs.Runs.{StandsFor}
use Rattle.rv_system.proofs.Running.{IsUpTo}
use Rattle.rv_system.proofs.system.System.run.Given as goal

abbrev pub invariant-loop-at : goal.invariant-loop-at
invariant-loop-at l = record {
  up_to : (sys : System) → StandsFor l.fn.self sys → IsUpTo l.schedule l.at sys l.events.items l.self.harts.items (full_at l.self.mem);
  fit : AllByRecursion (λ e. IsFitRecord e.1) l.events.items;
  few : length l.events.items ≡ l.at;
  count : length l.self.harts.items ≡ length l.fn.self.harts.items;
  len : vec_len l.events ≡ l.at;
  room : vec_capacity l.events ≡ length l.schedule;
}
