use Rattle.std.proofs.Common.{◌-◌, ◌^◌, ◌≤◌, ap, ◌∙◌, arith}
use Rattle.set_pieces.specs.Internal.Patterns.{matches}
use Rattle.set_pieces.specs.Internal.Runs.{in_run}
use Rattle.set_pieces.proofs.Pieces.{passes}
use Rattle.set_pieces.proofs.run.Run.shifted_past.Goals as goal

pub returns-in-Some-clause-some : goal.returns-in-Some-clause-some
unfolding in_run
returns-in-Some-clause-some c =
    let high = c.in-Some.high in
    let some = c.in-Some.ensures.some in
    let from : 2 ^ 32 - c.from-cut.result ≤ some.0 = omega (arith, c.in-Some.ensures.from, (passes (matches high.pattern) high.low high.high some.0 some.1).above) in
    (some.0 - (2 ^ 32 - c.from-cut.result), c.lowered.ensures (some.0 - (2 ^ 32 - c.from-cut.result)) ∙ ap (in_run high) (omega arith) ∙ some.1)
