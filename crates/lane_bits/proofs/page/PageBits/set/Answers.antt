use Rattle.std.proofs.Common.{◌||◌, eqb, ◌∙◌, arith}
use Rattle.std.proofs.lemmas.Bool.{ne_eqb}
use Rattle.lane_bits.specs.Pages.{has}
use Rattle.lane_bits.proofs.Words.{by_words, set_bit}
use Rattle.lane_bits.proofs.page.PageBits.set.Goals as goal

pub returns : goal.returns
returns c x =
    by_words (λ y b. b || eqb y c.args.i) _ c.self.inside.words (λ y le. ne_eqb y c.args.i (λ e. omega arith))
    (λ y lt. set_bit c.self.inside.words c.args.i y c.from.result c.from.ensures c.self.told c.requires lt) x
    ∙ (λ i. has (c.self.view_is i) x || eqb x c.args.i)
