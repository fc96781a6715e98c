use Rattle.std.proofs.Common.{◌∙◌}
use Rattle.set_pieces.proofs.Raising.{ones_cut}
use Rattle.set_pieces.proofs.pattern.Pattern.multiples.Goals as goal

pub returns-clause-step : goal.returns-clause-step
returns-clause-step c = c.low_bits.ensures ∙ ones_cut c.args.shift c.requires
