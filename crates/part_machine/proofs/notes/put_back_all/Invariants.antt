use Rattle.std.proofs.Common.{◌≡◌, ℕ, drop}
use Rattle.std.specs.Prelude.{All}
use Rattle.rv_mem.specs.Part.{part_at}
use Rattle.part_machine.specs.Notes.{IsKnownAt, put_back}
use Rattle.part_machine.proofs.notes.put_back_all.Given as goal

-- what is still to be put back leaves what is wanted
abbrev pub invariant-loop-note : goal.invariant-loop-note
invariant-loop-note l = record {
  back : (n : ℕ) → put_back (drop l.note-index l.notes) (part_at l.memory) n ≡ put_back l.notes (part_at l.fn.memory) n;
  known : All (λ x. IsKnownAt (part_at l.memory) x.addr) l.notes;
}
