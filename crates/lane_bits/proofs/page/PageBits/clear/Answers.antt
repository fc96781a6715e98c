use Rattle.std.proofs.Common.{◌&&◌, not, eqb, refl, ◌∙◌}
use Rattle.lane_bits.specs.Pages.{has}
use Rattle.lane_bits.proofs.Words.{by_words, clear_bit}
use Rattle.lane_bits.proofs.page.PageBits.clear.Goals as goal

pub returns : goal.returns
returns c x =
    by_words (λ y b. b && not (eqb y c.args.i)) _ c.self.inside.words (λ y le. refl)
    (λ y lt. clear_bit c.self.inside.words c.args.i y c.from.result c.from.ensures c.self.told c.requires lt) x
    ∙ (λ i. has (c.self.view_is i) x && not (eqb x c.args.i))
