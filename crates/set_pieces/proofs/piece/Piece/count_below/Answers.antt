use Rattle.std.proofs.Common.{arith}
use Rattle.set_pieces.proofs.Without.{counted_apart}
use Rattle.set_pieces.proofs.piece.Piece.count_below.Goals as goal

pub overflow_sub-result : goal.overflow_sub-result
overflow_sub-result c = omega (arith, c.count_below.ensures, c.count_of.ensures, counted_apart c.args.self c.filled.result c.args.x c.filled.ensures)

pub returns : goal.returns
returns c = omega (arith, c.count_below.ensures, c.count_of.ensures, counted_apart c.args.self c.filled.result c.args.x c.filled.ensures)
