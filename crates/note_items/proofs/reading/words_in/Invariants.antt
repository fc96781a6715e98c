use Rattle.std.proofs.Common.{◌≡◌, ◌-◌}
use Rattle.byte_format.specs.Internal.Readers.{times, with_front, word_at}
use Rattle.note_items.proofs.reading.words_in.Given as goal

abbrev pub invariant-loop : goal.invariant-loop
invariant-loop l = with_front l.items (times word_at (l.count - l.counter) l.rest) ≡ times word_at l.count l.bytes
