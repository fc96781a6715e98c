use Rattle.std.proofs.Common.{◌≡◌, drop}
use Rattle.note_items.specs.Internal.Checks.{are_places}
use Rattle.note_items.proofs.checks.are_places.Given as goal

abbrev pub invariant-loop-place : goal.invariant-loop-place
invariant-loop-place l = are_places l.low (drop l.place-index l.places) ≡ are_places 0 l.places
