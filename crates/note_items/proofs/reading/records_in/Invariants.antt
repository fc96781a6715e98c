use Rattle.std.proofs.Common.{◌≡◌, ◌-◌}
use Rattle.byte_format.specs.Internal.Readers.{times, with_front}
use Rattle.note_items.specs.Internal.Readers.{record_at}
use Rattle.note_items.proofs.reading.records_in.Given as goal

abbrev pub invariant-loop : goal.invariant-loop
invariant-loop l = with_front l.items (times record_at (l.count - l.counter) l.rest) ≡ times record_at l.count l.bytes
