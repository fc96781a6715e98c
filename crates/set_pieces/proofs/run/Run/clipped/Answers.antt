use Rattle.std.proofs.Common.{◌-◌, arith}
use Rattle.set_pieces.specs.Internal.Patterns.{matches}
use Rattle.set_pieces.specs.Internal.Runs.{in_run}
use Rattle.set_pieces.proofs.Pieces.{test_from, clip_none, clip_some}
use Rattle.set_pieces.proofs.run.Run.clipped.Goals as goal

pub returns-then-end-next_from-clause-held : goal.returns-then-end-next_from-clause-held
unfolding in_run
returns-then-end-next_from-clause-held c = λ x.
    clip_none (matches c.args.self.pattern) c.args.self.low c.args.self.high c.args.from c.args.end c.next_from.result x
    (λ y from lt. c.next_from.ensures.first y (omega arith) lt) (omega arith)

pub returns-clause-held : goal.returns-clause-held
unfolding in_run
returns-clause-held c = λ x.
    clip_some c.args.self.low c.args.self.high c.args.from c.args.end c.max-low.result c.min-end.result x (matches c.args.self.pattern x)
    (omega arith) (omega arith) (omega (arith, c.next_from.ensures.reached))

pub returns-clause-some : goal.returns-clause-some
unfolding in_run
returns-clause-some c = (
  c.next_from.result,
  test_from (matches c.args.self.pattern) c.max-low.result (c.min-end.result - 1) c.next_from.result
      (record { above = c.next_from.ensures.reached; below = omega arith; matched = c.next_from.ensures.matching }),
)
