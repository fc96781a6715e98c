use Rattle.std.proofs.Common.{◌∙◌}
use Rattle.set_pieces.specs.Internal.Patterns.{matches}
use Rattle.set_pieces.specs.Internal.Runs.{in_span, in_run}
use Rattle.set_pieces.proofs.Pieces.{both_are}
use Rattle.set_pieces.proofs.Without.{span_twice, none_of}
use Rattle.set_pieces.proofs.run.Run.matched.Goals as goal

pub returns-in-Some : goal.returns-in-Some
unfolding in_run
returns-in-Some c = λ x. c.clipped.ensures.held x ∙ rw (c.from.ensures, c.from-in-Some.ensures, c.with_pattern.ensures.held x, c.in-Some.ensures x)
    (both_are (in_span c.args.self x) (matches c.args.self.pattern x) (matches c.args.pattern x) c.args.self.low c.args.self.high x
    ∙ span_twice (in_span c.args.self x) (matches c.args.self.pattern x) (matches c.args.pattern x))

pub returns-in-None : goal.returns-in-None
unfolding in_run
returns-in-None c = λ x. none_of (in_span c.args.self x) (matches c.args.self.pattern x) (matches c.args.pattern x) (c.in-None.ensures x)
