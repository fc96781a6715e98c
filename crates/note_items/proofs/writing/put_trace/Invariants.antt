use Rattle.std.proofs.Common.{◌≡◌, ◌++◌, take, length}
use Rattle.std.specs.List.{flat_map}
use Rattle.byte_format.specs.Numbers.{word}
use Rattle.note_items.specs.Spelling.{record_spelling}
use Rattle.note_items.proofs.writing.put_trace.Given as goal

abbrev pub invariant-loop-record : goal.invariant-loop-record
invariant-loop-record l = l.out.items ≡ (l.fn.out.items ++ word (length l.records)) ++ flat_map record_spelling (take l.record-index l.records)
