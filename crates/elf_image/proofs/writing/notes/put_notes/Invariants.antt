use Rattle.std.proofs.Common.{◌≡◌, ◌++◌, take}
use Rattle.std.specs.List.{flat_map}
use Rattle.elf_image.specs.Notes.{note}
use Rattle.elf_image.proofs.writing.notes.put_notes.Given as goal

abbrev pub invariant-loop-note : goal.invariant-loop-note
invariant-loop-note l = l.out.items ≡ l.fn.out.items ++ flat_map (λ n. note n.kind n.desc) (take l.note-index l.notes)
