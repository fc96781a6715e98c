use Rattle.std.proofs.Common.{◌≡◌, drop}
use Rattle.elf_image.specs.Internal.Checks.{are_dropped}
use Rattle.elf_image.proofs.reading.checks.are_dropped.Given as goal

abbrev pub invariant-loop-one : goal.invariant-loop-one
invariant-loop-one l = are_dropped l.harts l.low (drop l.one-index l.dropped) ≡ are_dropped l.harts 0 l.dropped
