use Rattle.std.proofs.Common.{◌&&◌, not, Option, sym, ap, ◌∙◌}
use Rattle.set_pieces.specs.declared.pattern.Pattern.{Pattern}
use Rattle.set_pieces.specs.Internal.Patterns.{matches, is_matched}
use Rattle.set_pieces.specs.Internal.Runs.{in_run}
use Rattle.set_pieces.specs.Internal.Pieces.{in_piece}
use Rattle.set_pieces.proofs.Pieces.{and_all}
use Rattle.set_pieces.proofs.Unmatched.{first_same}
use Rattle.set_pieces.proofs.piece.Piece.first_from.Goals as goal

pub returns-in-Some : goal.returns-in-Some
unfolding in_piece
returns-in-Some c = first_same (λ x. in_run c.args.self.run x && not (matches c.in-Some.hole x)) (λ x. in_run c.args.self.run x && not (is_matched c.args.self.hole x)) c.args.from c.first_without.result
    (λ x. ap (λ (o : Option Pattern). in_run c.args.self.run x && not (is_matched o x)) (sym c.in-Some.is)) c.first_without.ensures

pub returns-in-None : goal.returns-in-None
unfolding in_piece
returns-in-None c = first_same (in_run c.args.self.run) (λ x. in_run c.args.self.run x && not (is_matched c.args.self.hole x)) c.args.from c.first_from.result
    (λ x. sym (and_all (in_run c.args.self.run x)) ∙ ap (λ (o : Option Pattern). in_run c.args.self.run x && not (is_matched o x)) (sym c.in-None.is)) c.first_from.ensures
