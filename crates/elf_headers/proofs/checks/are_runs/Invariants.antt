use Rattle.std.proofs.Common.{◌≡◌, drop}
use Rattle.elf_headers.specs.Internal.Checks.{are_runs}
use Rattle.elf_headers.proofs.checks.are_runs.Given as goal

abbrev pub invariant-loop-run : goal.invariant-loop-run
invariant-loop-run l = are_runs l.low (drop l.run-index l.runs) ≡ are_runs 0 l.runs
