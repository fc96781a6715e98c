use Rattle.std.proofs.Common.{◌&&◌, not, Option, sym, ap, ◌∙◌}
use Rattle.set_pieces.specs.declared.pattern.Pattern.{Pattern}
use Rattle.set_pieces.specs.Internal.Patterns.{matches, is_matched}
use Rattle.set_pieces.specs.Internal.Runs.{in_run}
use Rattle.set_pieces.specs.Internal.Pieces.{in_piece}
use Rattle.set_pieces.proofs.Pieces.{and_all}
use Rattle.set_pieces.proofs.Unmatched.{page_same}
use Rattle.set_pieces.proofs.piece.Piece.pages_end.Goals as goal

pub returns-in-Some-clause-held : goal.returns-in-Some-clause-held
unfolding in_piece
returns-in-Some-clause-held c = λ q from before. page_same (λ x. in_run c.args.self.run x && not (matches c.in-Some.hole x)) (λ x. in_run c.args.self.run x && not (is_matched c.args.self.hole x)) q
    (λ x. ap (λ (o : Option Pattern). in_run c.args.self.run x && not (is_matched o x)) (sym c.in-Some.is)) (c.pages_unmatched.ensures.held q from before)

pub returns-in-None-clause-held : goal.returns-in-None-clause-held
unfolding in_piece
returns-in-None-clause-held c = λ q from before. page_same (in_run c.args.self.run) (λ x. in_run c.args.self.run x && not (is_matched c.args.self.hole x)) q
    (λ x. sym (and_all (in_run c.args.self.run x)) ∙ ap (λ (o : Option Pattern). in_run c.args.self.run x && not (is_matched o x)) (sym c.in-None.is)) (c.pages_end.ensures.held q from before)
