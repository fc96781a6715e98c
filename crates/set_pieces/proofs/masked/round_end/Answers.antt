use Rattle.std.proofs.Common.{arith}
use Rattle.set_pieces.proofs.Powers.{power_within}
use Rattle.set_pieces.proofs.masked.round_end.Goals as goal

pub returns-then-from-next-clause-most : goal.returns-then-from-next-clause-most
returns-then-from-next-clause-most c =
    let power = c.next_power_of_two.ensures.power in
    omega (arith, power_within power.0 c.next_power_of_two.result power.1 (omega (arith, c.next_power_of_two.ensures.upper_bound, c.from-then-from-next.ensures)))
