use Rattle.std.proofs.Common.{◌≡◌, ◌/◌, ℕ, take}
use Rattle.rv_mem.specs.Ram.{in_ram}
use Rattle.rv_mem.specs.Runs.{in_runs}
use Rattle.rv_mem.proofs.ram.Ram.runs.Given as goal

abbrev pub invariant-loop-region : goal.invariant-loop-region
invariant-loop-region l = (x : ℕ) → in_runs l.runs.items x ≡ in_ram (take l.region-index l.region-items) (x / 4)
