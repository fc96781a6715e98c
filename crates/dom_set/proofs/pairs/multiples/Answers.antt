use Rattle.std.proofs.Common.{◌^◌, refl, ◌∙◌}
use Rattle.std.proofs.lemmas.Nat.{pow_pos}
use Rattle.set_pieces.specs.Internal.Runs.{in_run}
use Rattle.set_pieces.specs.Internal.Pieces.{in_piece}
use Rattle.set_pieces.proofs.Low.{rounded, multiples_are, no_multiples}
use Rattle.dom_set.proofs.Merging.{multiple_is}
use Rattle.set_pieces.proofs.Pieces.{and_all}
use Rattle.dom_set.proofs.pairs.multiples.Goals as goal

pub returns-then-last-first-clause-held : goal.returns-then-last-first-clause-held
returns-then-last-first-clause-held c =
    let ends = rounded (2 ^ c.args.shift) c.args.low c.args.high c.low_bits.result c.low_bits-2.result c.step.result c.from.result c.from-high.result
    (pow_pos c.args.shift) c.step.ensures c.from.ensures c.from-high.ensures c.low_bits.ensures c.low_bits-2.ensures in
    λ x _. no_multiples (2 ^ c.args.shift) c.args.low c.args.high _ _ x (pow_pos c.args.shift) ends c.if-last-first.true

pub returns-clause-multiples : goal.returns-clause-multiples
returns-clause-multiples c =
    let ends = rounded (2 ^ c.args.shift) c.args.low c.args.high c.low_bits.result c.low_bits-2.result c.step.result c.from.result c.from-high.result
    (pow_pos c.args.shift) c.step.ensures c.from.ensures c.from-high.ensures c.low_bits.ensures c.low_bits-2.ensures in
    record { mask = c.multiples.ensures.step; bits = c.multiples.ensures.bits; whole = refl; low = ends.first_is; high = ends.last_is }

pub returns-clause-held : goal.returns-clause-held
unfolding in_piece in_run
returns-clause-held c =
    let ends = rounded (2 ^ c.args.shift) c.args.low c.args.high c.low_bits.result c.low_bits-2.result c.step.result c.from.result c.from-high.result
    (pow_pos c.args.shift) c.step.ensures c.from.ensures c.from-high.ensures c.low_bits.ensures c.low_bits-2.ensures in
    λ x _. and_all _ ∙ rw (multiple_is c.args.shift c.multiples.result x c.multiples.ensures.step c.multiples.ensures.bits)
    (multiples_are (2 ^ c.args.shift) c.args.low c.args.high _ _ x (pow_pos c.args.shift) ends)
