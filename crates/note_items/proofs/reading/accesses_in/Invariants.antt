use Rattle.std.proofs.Common.{◌≡◌, ◌-◌, ◌≤◌, length}
use Rattle.byte_format.specs.Internal.Readers.{times, with_front}
use Rattle.note_items.specs.Internal.Readers.{access_at}
use Rattle.note_items.proofs.reading.accesses_in.Given as goal

abbrev pub invariant-loop : goal.invariant-loop
invariant-loop l = (with_front l.items (times access_at (l.count - l.counter) l.rest) ≡ times access_at l.count l.bytes) × (length l.items ≤ l.counter)
