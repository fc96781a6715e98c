use Rattle.lane_bits.proofs.Words.{moved}
use Rattle.lane_bits.proofs.page.words_from.Goals as goal

pub returns : goal.returns
returns c x lt = moved c.args.words.now c.args.first c.args.shift x c.requires.enough c.requires.within (λ k. (c.type_inv.words k).fits) lt
