use Rattle.std.proofs.Common.{◌-◌, ◌∙◌, arith}
use Rattle.set_pieces.proofs.Masking.{block_test}
use Rattle.set_pieces.proofs.masked.masked_block.Goals as goal

pub returns : goal.returns
returns c = λ x lt. c.matching.ensures.held x lt
    ∙ block_test x c.args.mask c.args.shift c.args.from (c.step.result - 1) c.requires.shift lt (omega (arith, c.step.ensures)) c.requires.divides
