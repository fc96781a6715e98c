use Rattle.std.proofs.Common.{◌≡◌, ◌||◌, ℕ}
use Rattle.std.specs.List.{list_any}
use Rattle.lane_bits.specs.Pages.{has as has_offset}
use Rattle.foot_map.proofs.Entries.{is_clashing}
use Rattle.foot_map.proofs.frames.blocked.Given as goal

abbrev pub invariant-loop-place : goal.invariant-loop-place
invariant-loop-place l = (x : ℕ) → (has_offset l.blocked x || list_any (is_clashing l.hart l.role x) l.place-iterator) ≡ list_any (is_clashing l.hart l.role x) l.initial.place-iterator
