-- A mask of ones keeps the low bits.
use Rattle.std.proofs.Common.{◌+◌, ◌-◌, ◌<◌, refl, arith}
use Rattle.std.proofs.lemmas.Nat.{one_shl, and_mask}
use Rattle.rv_isa.proofs.parts.bits.Goals as goal

pub returns : goal.returns
returns c =
    let narrow : c.args.high + 1 - c.args.low < 32 = omega arith in
    rw (one_shl (c.args.high + 1 - c.args.low) 32 narrow, and_mask) refl
