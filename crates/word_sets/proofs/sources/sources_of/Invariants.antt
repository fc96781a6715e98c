use Rattle.std.proofs.Common.{ℕ, ◌^◌, ◌<◌, take, IsTrue}
use Rattle.std.specs.Prelude.{◌↔◌}
use Rattle.dom_set.specs.Elements.{is_matching}
use Rattle.word_sets.specs.Internal.Sources.{ComesOf}
use Rattle.word_sets.proofs.sources.sources_of.Given as goal

abbrev pub invariant-loop-pattern : goal.invariant-loop-pattern
invariant-loop-pattern l = (v : ℕ) → v < 2 ^ 32 → IsTrue (is_matching l.sources.items v) ↔ ComesOf l.how l.other (is_matching (take l.pattern-index l.patterns)) v
