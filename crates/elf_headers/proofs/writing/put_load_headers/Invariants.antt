use Rattle.std.proofs.Common.{◌≡◌, ◌++◌, ◌≤◌, ◌+◌, ◌*◌, ◌^◌, drop}
use Rattle.elf_headers.specs.Headers.{load_headers}
use Rattle.elf_headers.proofs.writing.put_load_headers.Given as goal

abbrev pub invariant-loop-run : goal.invariant-loop-run
invariant-loop-run l = (l.out.items ++ load_headers l.offset (drop l.run-index l.runs) ≡ l.fn.out.items ++ load_headers l.start l.runs) × (l.offset ≤ l.start + l.run-index * 2 ^ 34)
