use Rattle.std.proofs.Common.{◌≡◌, ◌+◌, ◌*◌, ℕ, List, length, get_or, sym, ap, subst, ◌∙◌, arith}
use Rattle.std.specs.List.Sorted.{IsStrictlyIncreasing}
use Rattle.std.specs.Int.RustNames.{count_ones}
use Rattle.lane_bits.specs.Pages.{bit}
use Rattle.lane_bits.proofs.Members.{passing, passing_none, passing_le, length-elements, elements_ascend}
use Rattle.lane_bits.proofs.Words.{next_word}
use Rattle.lane_bits.proofs.page.PageBits.count.Goals as goal

more : (c : goal.In-loop-word) → c.loop-word.total + count_ones (get_or c.self.inside.words c.loop-word.word-index 0) ≡ passing (bit c.self.inside.words) ((c.loop-word.word-index + 1) * 64)
more c = ap (λ (n : ℕ). n + count_ones (get_or c.self.inside.words c.loop-word.word-index 0)) c.loop-word.invariant
    ∙ next_word c.self.inside.words c.loop-word.word-index c.loop-word-test.element_fits.fits

pub loop-word-init : goal.loop-word-init
loop-word-init c = sym (passing_none (bit c.self.inside.words))

pub overflow_add-total : goal.overflow_add-total
overflow_add-total c = let le = passing_le (bit c.self.inside.words) ((c.loop-word.word-index + 1) * 64) in
    let is = more c in
    record { fits = omega arith }

pub loop-word-preserved : goal.loop-word-preserved
loop-word-preserved c = more c

pub returns-clause-count : goal.returns-clause-count
returns-clause-count c =
    let all : c.loop-word.word-index * 64 ≡ 4096 = omega arith in
    c.loop-word.invariant ∙ ap (passing (bit c.self.inside.words)) all ∙ sym (length-elements (bit c.self.inside.words)) ∙ ap (λ (page : List ℕ). length page) c.self.view_is

pub returns-clause-ascending : goal.returns-clause-ascending
returns-clause-ascending c = subst (λ (page : List ℕ). IsStrictlyIncreasing page) c.self.view_is (elements_ascend (bit c.self.inside.words))
