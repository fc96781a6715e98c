use Rattle.std.proofs.Common.{◌≡◌, ◌++◌, ◌≤◌, ◌+◌, drop, length, map}
use Rattle.elf_headers.specs.Runs.{address_of, runs_from, runs_of}
use Rattle.elf_headers.proofs.runs.list_runs.Given as goal

abbrev pub invariant-loop-word : goal.invariant-loop-word
invariant-loop-word l = (l.runs.items ++ runs_from l.current.addr l.current.words (map address_of (drop l.word-index l.rest)) ≡ runs_of (map address_of l.words)) × (l.current.words ≤ l.word-index + 1) × (length l.runs.items ≤ l.word-index)
