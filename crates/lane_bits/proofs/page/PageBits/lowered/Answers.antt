use Rattle.std.proofs.Common.{◌+◌, ◌∙◌, ℕ, List, sym, ap, arith}
use Rattle.lane_bits.specs.Pages.{has}
use Rattle.lane_bits.proofs.Words.{none_past, lowered_bit}
use Rattle.lane_bits.proofs.page.PageBits.lowered.Goals as goal

pub returns-then-n-ge4096 : goal.returns-then-n-ge4096
returns-then-n-ge4096 c x =
    c.new.ensures x ∙ sym (none_past c.self.inside.words (x + c.args.n) (omega arith)) ∙ ap (λ (page : List ℕ). has page (x + c.args.n)) c.self.view_is

pub returns : goal.returns
returns c x =
    lowered_bit c.self.inside.words c.words_from-lanes.result c.from.result c.from-2.result c.args.n c.self.told c.from.ensures c.from-2.ensures (omega arith)
    c.words_from-lanes.ensures x
    ∙ ap (λ (page : List ℕ). has page (x + c.args.n)) c.self.view_is
