use Rattle.std.proofs.Common.{◌⊎◌, ℕ, List}
use Rattle.foot_map.specs.declared.touch.Touch.{Touch}
use Rattle.foot_map.proofs.Entries.{Among, IsFine}
use Rattle.foot_map.proofs.frames.races.Given as goal

-- each page is still to come or races with none, and what is to come are pages of the map
abbrev pub invariant-loop-place : goal.invariant-loop-place
invariant-loop-place l = record {
  done : (e : Touch × List ℕ) → Among e l.initial.place-iterator → Among e l.place-iterator ⊎ IsFine l.pages e;
  ahead : (e : Touch × List ℕ) → Among e l.place-iterator → Among e l.pages.entries;
}
