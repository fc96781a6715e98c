use Rattle.std.proofs.Common.{◌≡◌, ◌++◌, take, string_bytes}
use Rattle.trace_text.specs.Report.{places_text}
use Rattle.trace_text.proofs.harts.push_places.Given as goal

abbrev pub invariant-loop-place : goal.invariant-loop-place
invariant-loop-place l = string_bytes l.text ≡ string_bytes l.initial.text ++ places_text l.word l.hart (take l.place-index l.places)
