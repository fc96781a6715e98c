use Rattle.std.proofs.Common.{List, ap, ◌∙◌, arith}
use Rattle.set_pieces.specs.declared.piece.Piece.{Piece}
use Rattle.set_pieces.specs.Internal.Pieces.{times}
use Rattle.set_pieces.proofs.Times.{times_push}
use Rattle.dom_set.proofs.Walks.{not_reaching}
use Rattle.dom_set.proofs.combined.push_alive.Goals as goal

pub returns-in_ok-push : goal.returns-in_ok-push
returns-in_ok-push c = λ x le. ap (λ (ps : List Piece). times ps x) c.in_ok-push.ensures.items ∙ times_push c.args.alive.now.items c.args.p x

pub returns-else-from-p : goal.returns-else-from-p
returns-else-from-p c = λ x le. omega (arith, not_reaching c.args.p c.args.from x c.if-from-p.false le)
