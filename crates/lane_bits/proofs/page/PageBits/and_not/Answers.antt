use Rattle.std.proofs.Common.{◌≡◌, ◌&&◌, not, bit_and, length, refl, sym, ◌∙◌}
use Rattle.std.specs.Simd.Lanes.{zip2}
use Rattle.std.proofs.lemmas.Simd.{length-zip2}
use Rattle.lane_bits.specs.Pages.{has}
use Rattle.lane_bits.proofs.Words.{by_both_words, left_bit}
use Rattle.lane_bits.proofs.page.PageBits.and_not.Goals as goal

pub returns : goal.returns
returns c x =
    let len : length (zip2 bit_and c.self.inside.words c.other.inside.words) ≡ 64 =
    length-zip2 bit_and c.self.inside.words c.other.inside.words (c.self.told ∙ sym c.other.told) ∙ c.self.told in
    by_both_words (λ p q. p && not q) _ c.self.inside.words c.other.inside.words refl
    (λ y lt. left_bit c.self.inside.words c.other.inside.words y c.self.told c.other.told len lt) x
    ∙ (λ i. has (c.self.view_is i) x && not (has (c.other.view_is i) x))
