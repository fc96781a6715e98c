use Rattle.std.proofs.Common.{◌≡◌, sym, ap, ◌∙◌, refl, arith}
use Rattle.set_pieces.specs.Internal.Patterns.{matches}
use Rattle.set_pieces.proofs.Halving.{all_match, same_between}
use Rattle.set_pieces.proofs.pattern.Pattern.+between.Goals as goal

pub returns-then-low-high-clause-same : goal.returns-then-low-high-clause-same
returns-then-low-high-clause-same t c = λ x from to.
    let here : x ≡ c.args.low = omega (arith, from, to, c.if-low-high.true) in
    all_match _ refl x ∙ sym (ap (matches c.args.self) here ∙ c.requires.matching)

pub returns-clause-same : goal.returns-clause-same
returns-clause-same t c = same_between c.args.self c.half.result _ c.between-rest.result c.args.low c.args.high
    (record { first = record { mask = c.half.ensures.mask; bits = c.half.ensures.bits }; second = record { mask = omega arith; bits = omega arith }; mask = omega arith; bits = omega arith })
    c.between-rest.ensures.same
