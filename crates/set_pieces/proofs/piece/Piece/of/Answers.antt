use Rattle.std.proofs.Common.{◌&&◌, not, Option, sym, ap, ◌∙◌}
use Rattle.set_pieces.specs.declared.pattern.Pattern.{Pattern}
use Rattle.set_pieces.specs.Internal.Patterns.{is_matched}
use Rattle.set_pieces.specs.Internal.Runs.{in_run}
use Rattle.set_pieces.proofs.Pieces.{and_all}
use Rattle.set_pieces.proofs.piece.Piece.of.Goals as goal

pub returns-in-Some : goal.returns-in-Some
returns-in-Some c = λ x. c.unmatched.ensures x ∙ ap (λ (o : Option Pattern). in_run c.args.run x && not (is_matched o x)) (sym c.in-Some.is)

pub returns-in-None : goal.returns-in-None
returns-in-None c = λ x. c.whole.ensures.held x ∙ sym (and_all (in_run c.args.run x))
    ∙ ap (λ (o : Option Pattern). in_run c.args.run x && not (is_matched o x)) (sym c.in-None.is)
