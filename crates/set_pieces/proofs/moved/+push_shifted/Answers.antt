use Rattle.std.proofs.Common.{◌≡◌, ℕ, ◌+◌, ◌-◌, ◌%◌, ◌^◌, ap, ◌∙◌, arith}
use Rattle.set_pieces.specs.Counting.{one}
use Rattle.set_pieces.specs.Internal.Patterns.{matches}
use Rattle.set_pieces.specs.Internal.Runs.{in_span, in_run, is_in_run}
use Rattle.set_pieces.proofs.Pieces.{halves_are, all_words}
use Rattle.set_pieces.proofs.moved.+push_shifted.Goals as goal

pub returns-in_ok-push_shifted-in-Some-halves-2 : goal.returns-in_ok-push_shifted-in-Some-halves-2
unfolding in_run
returns-in_ok-push_shifted-in-Some-halves-2 t c = λ y lt.
    let z : ℕ = (y + (2 ^ 32 - c.args.distance)) % 2 ^ 32 in
    let apart : one (matches c.in-Some.p.pattern z) ≡ one (matches c.in-Some-halves.first z) + one (matches c.in-Some-halves.second z) =
    rw (c.in-Some-halves.first-is, c.in-Some-halves.second-is) (c.in-Some-halves.ensures.apart z) in
    omega (
      arith,
      c.in_ok-push_shifted-in-Some-halves-2.ensures y lt,
      c.in_ok-push_shifted-in-Some-halves.ensures y lt,
      ap one (c.clipped.ensures.held z ∙ all_words _ z (omega arith) ∙ c.with_pattern.ensures.held z),
      ap one (c.clipped-in-Some-halves.ensures.held z ∙ all_words _ z (omega arith) ∙ c.with_pattern-in-Some-halves.ensures.held z),
      ap (λ o. one (is_in_run o z)) c.in-Some.is,
      halves_are (in_span c.in-Some.p z) (matches c.in-Some.p.pattern z) (matches c.in-Some-halves.first z) (matches c.in-Some-halves.second z) apart,
    )
