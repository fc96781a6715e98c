use Rattle.std.proofs.Common.{◌%◌, ℕ, List, eqb, get_or, sym, ap, ◌∙◌}
use Rattle.std.specs.Int.{bit_at}
use Rattle.std.proofs.lemmas.Nat.Bits.{shr_and_one}
use Rattle.lane_bits.specs.Pages.{has}
use Rattle.lane_bits.proofs.Words.{bit_is, has_bit}
use Rattle.lane_bits.proofs.page.PageBits.get.Goals as goal

pub returns : goal.returns
returns c =
    let words = c.self.inside.words in
    ap (λ (d : ℕ). eqb d 1) (shr_and_one (get_or words c.from.result 0) (c.args.i % 64))
    ∙ ap (λ (k : ℕ). eqb (bit_at (get_or words k 0) (c.args.i % 64)) 1) c.from.ensures
    ∙ sym (bit_is words c.args.i)
    ∙ sym (has_bit words c.args.i c.requires)
    ∙ ap (λ (page : List ℕ). has page c.args.i) c.self.view_is
