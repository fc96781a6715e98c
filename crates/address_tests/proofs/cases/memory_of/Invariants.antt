use Rattle.std.proofs.Common.{◌≡◌, ℕ}
use Rattle.rv_mem.specs.Part.{part_at}
use Rattle.rv_mem.specs.Ram.{in_ram}
use Rattle.rv_mem.specs.Seen.{is_there}
use Rattle.address_tests.proofs.cases.memory_of.Given as goal

abbrev pub invariant-loop-word : goal.invariant-loop-word
invariant-loop-word g l = (n : ℕ) → is_there (part_at l.memory n) ≡ in_ram l.ram n
