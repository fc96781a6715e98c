use Rattle.std.proofs.Common.{◌≡◌, ◌++◌, take, length}
use Rattle.std.specs.List.{flat_map}
use Rattle.byte_format.specs.Numbers.{word}
use Rattle.note_items.specs.Spelling.{access_spelling}
use Rattle.note_items.proofs.writing.put_accesses.Given as goal

abbrev pub invariant-loop-access : goal.invariant-loop-access
invariant-loop-access l = l.out.items ≡ (l.fn.out.items ++ word (length l.accesses)) ++ flat_map access_spelling (take l.access-index l.accesses)
