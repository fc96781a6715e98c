use Rattle.std.proofs.Common.{◌^◌, arith}
use Rattle.set_pieces.proofs.Without.{counted_both}
use Rattle.set_pieces.proofs.parts.count_both.Goals as goal

pub overflow_sub-result : goal.overflow_sub-result
overflow_sub-result c = omega (arith, c.count_piece.ensures, c.count_piece-2.ensures, counted_both c.args.p c.args.q c.common.result c.common_part.result c.filled.result (2 ^ 32) c.common.ensures c.filled.ensures c.common_part.ensures)

pub returns : goal.returns
returns c = omega (arith, c.count_piece.ensures, c.count_piece-2.ensures, counted_both c.args.p c.args.q c.common.result c.common_part.result c.filled.result (2 ^ 32) c.common.ensures c.filled.ensures c.common_part.ensures)
