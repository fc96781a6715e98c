use Rattle.std.proofs.Common.{List, ◌/◌, cond, length, ap, ◌∙◌}
use Rattle.set_pieces.specs.declared.piece.Piece.{Piece}
use Rattle.set_pieces.specs.Internal.Pieces.{holds, times}
use Rattle.set_pieces.proofs.Times.{united_few, united_halves}
use Rattle.dom_set.proofs.combined.+united.Goals as goal

pub returns-then-pieces-lt2 : goal.returns-then-pieces-lt2
returns-then-pieces-lt2 t c = λ x. ap (λ (ps : List Piece). times ps x) c.in_ok-all.ensures.items ∙ united_few c.args.pieces.now x c.if-pieces-lt2.true

pub returns : goal.returns
returns t c = λ x. c.in_ok-both.ensures x
    ∙ (λ i. cond (holds (c.deref.ensures.value i) x) (times (c.deref.ensures.value i) x) (times (c.deref-2.ensures.value i) x))
    ∙ united_halves c.args.pieces.now c.split_at.result.0.now c.split_at.result.1.now c.in_ok-first.first.items c.in_ok-second.second.items (length c.args.pieces.now / 2) x
    c.split_at.ensures.front c.split_at.ensures.back (c.in_ok-first.ensures x) (c.in_ok-second.ensures x)
