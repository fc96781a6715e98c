use Rattle.std.proofs.Common.{arith}
use Rattle.set_pieces.specs.Internal.Patterns.{matches}
use Rattle.set_pieces.specs.Internal.Runs.{in_run}
use Rattle.set_pieces.proofs.Pieces.{test_from, none_before, none_from}
use Rattle.set_pieces.proofs.Pages.{past_end}
use Rattle.set_pieces.proofs.run.Run.first_from.Goals as goal

pub returns-then-first-from : goal.returns-then-first-from
unfolding in_run
returns-then-first-from c = (
  test_from (matches c.args.self.pattern) c.args.self.low c.args.self.high c.next_from-first.result
      (record { above = omega (arith, c.next_from-first.ensures.reached); below = omega arith; matched = c.next_from-first.ensures.matching }),
  omega (arith, c.next_from-first.ensures.reached),
  λ x le lt. none_before (matches c.args.self.pattern) c.args.self.low c.args.self.high c.args.from c.next_from-first.result x
      (λ y from before. c.next_from-first.ensures.first y (omega arith) before) le lt,
)

pub returns-else-first-from : goal.returns-else-first-from
unfolding in_run
returns-else-first-from c = λ x le.
    none_from (matches c.args.self.pattern) c.args.self.low c.args.self.high c.args.from c.next_from-first.result x
    (λ y from before. c.next_from-first.ensures.first y (omega arith) before) (omega arith) le

pub returns-then-self-from : goal.returns-then-self-from
unfolding in_run
returns-then-self-from c = λ x le. past_end (matches c.args.self.pattern x) c.args.self.low c.args.self.high x (omega (arith, le, c.if-self-from.true))
