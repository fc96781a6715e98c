use Rattle.std.proofs.Common.{◌+◌, ap, ◌∙◌, arith}
use Rattle.std.proofs.lemmas.Bool.{le-leb, and_from}
use Rattle.set_pieces.specs.Internal.Runs.{in_run}
use Rattle.set_pieces.proofs.run.Run.shifted_within.Goals as goal

pub returns-in-Some-clause-some : goal.returns-in-Some-clause-some
returns-in-Some-clause-some c =
    let some = c.in-Some.ensures.some in (
      some.0 + c.args.distance,
      c.raised.ensures (some.0 + c.args.distance)
          ∙ and_from _ _ (le-leb c.args.distance (some.0 + c.args.distance) (omega arith)) (ap (in_run c.in-Some.low) (omega arith) ∙ some.1),
    )
