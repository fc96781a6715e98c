use Rattle.std.proofs.Common.{◌≡◌, ◌%◌, ◌^◌, arith}
use Rattle.row_parts.proofs.Cuts.{low_aligned}
use Rattle.row_parts.proofs.ram_part.RamPartChoice.judge.Goals as goal

pub is_outside-requires : goal.is_outside-requires
is_outside-requires c =
    let four : c.args.start % 2 ^ 2 ≡ 0 = low_aligned c.args.start c.args.bits 2 c.requires.grain c.requires.aligned in
    omega (arith, four, c.from.ensures, c.from-2.ensures)
