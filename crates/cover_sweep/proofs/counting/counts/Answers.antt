use Rattle.std.proofs.Common.{◌≡◌, ℕ, List, ap, ◌∙◌}
use Rattle.std.specs.Prelude.{slice_index}
use Rattle.cover_sweep.specs.Counts.{times_of}
use Rattle.cover_sweep.proofs.Times.{counts_told}
use Rattle.cover_sweep.proofs.counting.counts.Goals as goal

pub returns : goal.returns
returns c =
    let each : (n : ℕ) → slice_index c.deref.result.now n ≡ times_of n c.args.c.now.traces =
    λ n. ap (λ (xs : List ℕ). slice_index xs n) c.deref.ensures.value ∙ c.in_ok-totals.ensures.each n ∙ ap (times_of n) c.as_slice.ensures in
    counts_told c.args.c.now c.deref.result.now c.in_ok-counts.counts.items c.in_ok-counts.ensures each
