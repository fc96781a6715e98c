use Rattle.std.proofs.lemmas.Nat.{and_mask}
use Rattle.set_pieces.proofs.steps.low_bits.Goals as goal

pub returns : goal.returns
returns c = rw c.step.ensures (and_mask c.args.x c.args.shift)
