use Rattle.std.proofs.Common.{◌≡◌, ◌-◌, ◌≤◌, ◌+◌, ◌*◌, ◌^◌}
use Rattle.byte_format.specs.Internal.Readers.{chain_at, with_front}
use Rattle.elf_headers.specs.Internal.Readers.{next_offset, load_at}
use Rattle.elf_headers.proofs.reading.loads_of.Given as goal

abbrev pub invariant-loop : goal.invariant-loop
invariant-loop l = (with_front l.items (chain_at next_offset load_at (l.count - l.counter) l.offset l.rest) ≡ chain_at next_offset load_at l.count l.start l.bytes) × (l.offset ≤ l.start + l.counter * 2 ^ 34)
