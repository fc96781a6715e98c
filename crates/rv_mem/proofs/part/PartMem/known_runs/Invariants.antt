use Rattle.std.proofs.Common.{◌≡◌, ◌/◌, ◌<◌, ◌^◌, ◌||◌, ℕ}
use Rattle.std.specs.List.{list_any}
use Rattle.rv_mem.specs.Runs.{in_runs}
use Rattle.rv_mem.proofs.Runs.{is_of}
use Rattle.rv_mem.proofs.part.PartMem.known_runs.Given as goal

abbrev pub invariant-loop-number : goal.invariant-loop-number
invariant-loop-number l = (x : ℕ) → x < 2 ^ 32 → (in_runs l.runs.items x || list_any (is_of l.self.ram (x / 4)) l.number-iterator) ≡ list_any (is_of l.self.ram (x / 4)) l.initial.number-iterator
