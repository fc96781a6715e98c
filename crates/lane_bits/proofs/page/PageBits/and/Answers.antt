use Rattle.std.proofs.Common.{◌&&◌, refl, ◌∙◌}
use Rattle.lane_bits.specs.Pages.{has}
use Rattle.lane_bits.proofs.Words.{by_both_words, and_bit}
use Rattle.lane_bits.proofs.page.PageBits.and.Goals as goal

pub returns : goal.returns
returns c x =
    by_both_words (λ p q. p && q) _ c.self.inside.words c.other.inside.words refl
    (λ y lt. and_bit c.self.inside.words c.other.inside.words y c.self.told c.other.told lt) x
    ∙ (λ i. has (c.self.view_is i) x && has (c.other.view_is i) x)
