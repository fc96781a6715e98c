use Rattle.std.proofs.Common.{◌≡◌, ℕ, length, inl, inr, arith}
use Rattle.std.specs.Prelude.{replicate, slice_index}
use Rattle.std.proofs.lemmas.Bool.{cases_lt}
use Rattle.std.proofs.lemmas.List.{get_or-replicate, get_or_past, length-replicate}
use Rattle.trace_text.proofs.runs.no_counts.Goals as goal

abbrev nothing : ℕ
nothing = 0

none : (n k : ℕ) → slice_index (replicate n 0) k ≡ 0
none n k = elim (cases_lt k n) [
  | inl within ↦ get_or-replicate n k 0 0 within
  | inr past ↦ (let size : length (replicate n nothing) ≡ n = length-replicate n nothing in get_or_past (replicate n nothing) k 0 (omega (arith, size, past)))
]

pub returns : goal.returns
returns c = none 256
