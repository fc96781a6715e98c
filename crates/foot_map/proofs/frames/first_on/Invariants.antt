use Rattle.std.proofs.Common.{◌≡◌}
use Rattle.std.specs.List.{find}
use Rattle.foot_map.proofs.Entries.{is_clashing}
use Rattle.foot_map.proofs.frames.first_on.Given as goal

abbrev pub invariant-loop-place : goal.invariant-loop-place
invariant-loop-place l = find (is_clashing l.hart l.role l.offset) l.place-iterator ≡ find (is_clashing l.hart l.role l.offset) l.initial.place-iterator
