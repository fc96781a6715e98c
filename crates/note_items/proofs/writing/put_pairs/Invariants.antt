use Rattle.std.proofs.Common.{◌≡◌, ◌++◌, take, length}
use Rattle.std.specs.List.{flat_map}
use Rattle.byte_format.specs.Numbers.{word}
use Rattle.note_items.specs.Spelling.{pair_spelling}
use Rattle.note_items.proofs.writing.put_pairs.Given as goal

abbrev pub invariant-loop-pair : goal.invariant-loop-pair
invariant-loop-pair l = l.out.items ≡ (l.fn.out.items ++ word (length l.pairs)) ++ flat_map pair_spelling (take l.pair-index l.pairs)
