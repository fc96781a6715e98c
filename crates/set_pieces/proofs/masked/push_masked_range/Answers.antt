use Rattle.std.proofs.Common.{ℕ, ◌+◌, ◌&&◌, not, leb, ltb, bit_and, ◌∙◌}
use Rattle.set_pieces.specs.Counting.{one}
use Rattle.set_pieces.specs.Internal.Pieces.{times}
use Rattle.set_pieces.proofs.masked.push_masked_range.Goals as goal

pub returns-in_ok-push_range-in-Some : goal.returns-in_ok-push_range-in-Some
returns-in_ok-push_range-in-Some c = λ x lt.
    let y : ℕ = bit_and x c.args.mask in
    c.in_ok-push_range-in-Some.ensures x lt
    ∙ (λ i. times c.args.out.now.items x + one ((leb c.args.from y && ltb y c.args.end) && (c.in-Some.ensures x i && not (c.masked_hole.ensures x i))))
