use Rattle.std.proofs.Common.{◌≡◌, ◌++◌, take, length}
use Rattle.std.specs.List.{flat_map}
use Rattle.byte_format.specs.Numbers.{word}
use Rattle.note_items.proofs.writing.put_words.Given as goal

abbrev pub invariant-loop-word : goal.invariant-loop-word
invariant-loop-word l = l.out.items ≡ (l.fn.out.items ++ word (length l.words)) ++ flat_map word (take l.word-index l.words)
