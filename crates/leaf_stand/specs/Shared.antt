-- Which memory the accesses of other harts touch.
use Rattle.std.specs.Borrow.{Bor}
use Rattle.std.specs.Prelude.{◌≡◌, ℕ, ◌<◌, ◌^◌, ◌||◌, Bool, List, map}
use Rattle.dom_set.specs.Elements.{is_within}
use Rattle.rv_hart.specs.declared.record.Record.{Record}

-- the records of each hart
abbrev pub traces_of : List (Bor (List Record)) → List (List Record)
traces_of = map (λ r. r.now)

-- ranges came to others, in which the addresses lie that pass the test
abbrev pub AddsSpans : (ℕ → Bool) → List (ℕ × ℕ) → List (ℕ × ℕ) → Type 0
AddsSpans test old new = (v : ℕ) → v < 2 ^ 32 → is_within new v ≡ (is_within old v || test v)
