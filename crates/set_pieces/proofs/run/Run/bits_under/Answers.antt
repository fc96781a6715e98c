use Rattle.set_pieces.proofs.Tells.{told_bits}
use Rattle.set_pieces.proofs.run.Run.bits_under.Goals as goal

pub returns-then-self-mask : goal.returns-then-self-mask
returns-then-self-mask c = λ x held. told_bits c.args.self c.args.mask x c.if-self-mask.true held
