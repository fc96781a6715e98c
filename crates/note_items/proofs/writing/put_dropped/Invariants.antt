use Rattle.std.proofs.Common.{◌≡◌, ◌++◌, take, length}
use Rattle.std.specs.List.{flat_map}
use Rattle.byte_format.specs.Numbers.{word}
use Rattle.note_items.specs.Spelling.{drop_spelling}
use Rattle.note_items.proofs.writing.put_dropped.Given as goal

abbrev pub invariant-loop-one : goal.invariant-loop-one
invariant-loop-one l = l.out.items ≡ (l.fn.out.items ++ word (length l.dropped)) ++ flat_map drop_spelling (take l.one-index l.dropped)
