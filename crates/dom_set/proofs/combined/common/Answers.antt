use Rattle.std.proofs.Common.{List, ℕ, ◌*◌, drop, ap, arith}
use Rattle.set_pieces.specs.declared.piece.Piece.{Piece}
use Rattle.set_pieces.specs.Counting.{one}
use Rattle.set_pieces.specs.Internal.Pieces.{in_piece, times}
use Rattle.set_pieces.proofs.Times.{times_rest}
use Rattle.dom_set.proofs.Walks.{shared_alive}
use Rattle.dom_set.proofs.combined.common.Goals as goal

pub loop-p-preserved : goal.loop-p-preserved
loop-p-preserved c = record {
  shared = λ x. omega (
    arith,
    c.loop-p.invariant.shared x,
    c.in_ok-push_common.ensures x,
    c.in_ok-push_common-2.ensures x,
    ap (λ (ps : List Piece). one (in_piece c.p-item.result x) * times (drop 0 ps) x) c.deref.ensures.value,
    shared_alive c.p-item.result c.args.others.now c.next_place.new.alive.items c.in_ok-place.place x c.in_ok-place.ensures,
    ap (λ (n : ℕ). n * times c.args.others.now x) (times_rest c.args.pieces.now c.loop-p.p-index c.p-item.result x c.loop-p-test.true c.p-item.is),
  );
  alive = c.in_ok-place.ensures;
}
