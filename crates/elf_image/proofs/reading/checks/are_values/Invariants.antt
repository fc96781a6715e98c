use Rattle.std.proofs.Common.{◌≡◌, drop}
use Rattle.elf_image.specs.Internal.Checks.{are_values}
use Rattle.elf_image.proofs.reading.checks.are_values.Given as goal

abbrev pub invariant-loop-name : goal.invariant-loop-name
invariant-loop-name l = are_values l.low (drop l.name-index l.names) ≡ are_values 0 l.names
