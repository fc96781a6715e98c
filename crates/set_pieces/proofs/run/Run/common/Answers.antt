use Rattle.std.proofs.Common.{◌∙◌}
use Rattle.set_pieces.specs.Internal.Patterns.{matches}
use Rattle.set_pieces.specs.Internal.Runs.{in_span, in_run}
use Rattle.set_pieces.proofs.Pieces.{both_are, both_none}
use Rattle.set_pieces.proofs.Pages.{before_other, after_other}
use Rattle.set_pieces.proofs.run.Run.common.Goals.{then-self-other-via-then-self-other, then-self-other-via-else-self-other+then-other-self}
use Rattle.set_pieces.proofs.run.Run.common.Goals as goal

pub returns-in-Some-clause-held : goal.returns-in-Some-clause-held
unfolding in_run
returns-in-Some-clause-held c = λ x. c.clipped.ensures.held x ∙ rw (c.from.ensures, c.from-in-Some.ensures, c.with_pattern-both.ensures.held x, c.in-Some.ensures x)
    (both_are (in_span c.args.self x) (matches c.args.self.pattern x) (matches c.args.other.pattern x) c.args.other.low c.args.other.high x)

pub returns-in-None-clause-held : goal.returns-in-None-clause-held
unfolding in_run
returns-in-None-clause-held c = λ x. both_none (in_span c.args.self x) (matches c.args.self.pattern x) (in_span c.args.other x) (matches c.args.other.pattern x) (c.in-None.ensures x)

pub returns-then-self-other-clause-held : goal.returns-then-self-other-clause-held
unfolding in_run
returns-then-self-other-clause-held c = λ x. elim c.then-self-other.branch [
  | then-self-other-via-then-self-other w ↦ before_other (matches c.args.self.pattern x) (matches c.args.other.pattern x) c.args.self.low c.args.self.high c.args.other.low c.args.other.high x w.if-self-other.true
  | then-self-other-via-else-self-other+then-other-self w ↦ after_other (matches c.args.self.pattern x) (matches c.args.other.pattern x) c.args.self.low c.args.self.high c.args.other.low c.args.other.high x w.if-other-self.true
]
