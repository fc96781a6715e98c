use Rattle.std.proofs.Common.{◌≡◌, ℕ, ◌<◌, ◌^◌, true, drop}
use Rattle.rv_mem.specs.Ram.{in_ram}
use Rattle.leaf_turn.proofs.known.ram_is_near.Given as goal

abbrev pub invariant-loop-region : goal.invariant-loop-region
invariant-loop-region l = (n : ℕ) → (in_ram (drop l.region-index l.ram) n ≡ true → n < 2 ^ 30) → in_ram l.ram n ≡ true → n < 2 ^ 30
