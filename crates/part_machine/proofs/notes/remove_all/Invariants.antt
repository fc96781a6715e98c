use Rattle.std.proofs.Common.{◌≡◌, ℕ, drop}
use Rattle.rv_script.specs.declared.access.Role.{Role}
use Rattle.foot_map.specs.Touches.{has}
use Rattle.part_machine.specs.Notes.{taken_out}
use Rattle.part_machine.proofs.notes.remove_all.Given as goal

-- what is still to be taken out leaves what is wanted
abbrev pub invariant-loop-note : goal.invariant-loop-note
invariant-loop-note l = (b h : ℕ) (r : Role) → taken_out l.hart (drop l.note-index l.notes) (has l.feet) b h r ≡ taken_out l.hart l.notes (has l.fn.feet) b h r
