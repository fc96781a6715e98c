use Rattle.std.proofs.Common.{◌-◌, ◌%◌, ◌∙◌}
use Rattle.set_pieces.specs.Internal.Patterns.{matches}
use Rattle.set_pieces.specs.Internal.Runs.{in_span, in_run}
use Rattle.set_pieces.proofs.Pieces.{all_words, and_none, odd_crossed, odd_is}
use Rattle.set_pieces.proofs.run.Run.with_odd.Goals as goal

pub returns-then-from-low-clause-held : goal.returns-then-from-low-clause-held
unfolding in_run
returns-then-from-low-clause-held c = λ x lt. odd_crossed c.args.self.low c.args.self.high x (matches c.args.self.pattern (x - x % 2))
    (rw (c.from.ensures, c.from-2.ensures, c.from-3.ensures) at c.if-from-low.true)

pub returns-in-Some-clause-held : goal.returns-in-Some-clause-held
unfolding in_run
returns-in-Some-clause-held c = λ x lt. c.clipped.ensures.held x ∙ all_words _ x lt ∙ rw (c.from.ensures, c.from-2.ensures)
    (odd_is c.args.self.low c.args.self.high x (matches c.in-Some.pattern x) (matches c.args.self.pattern (x - x % 2)) (c.in-Some.ensures x))

pub returns-in-None-clause-held : goal.returns-in-None-clause-held
unfolding in_run
returns-in-None-clause-held c = λ x lt. and_none (in_span c.args.self (x - x % 2)) (matches c.args.self.pattern (x - x % 2)) (c.in-None.ensures x)
