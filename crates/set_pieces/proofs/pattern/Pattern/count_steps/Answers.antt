use Rattle.std.proofs.Common.{◌≡◌, ◌+◌, ◌-◌, ◌/◌, ◌^◌, ap, ◌∙◌, arith}
use Rattle.std.specs.Prelude.{count_ones}
use Rattle.std.specs.Int.Count.{ones-ones}
use Rattle.set_pieces.proofs.Stepping.{each, count_each}
use Rattle.set_pieces.proofs.pattern.Pattern.count_steps.Goals as goal

pub returns : goal.returns
returns c =
    let p = c.args.self in
    let k = c.requires.step.0 in
    let e = each p c.requires.step in
    let rest : c.from.result ≡ 2 ^ k - 1 - p.bits = omega (arith, c.from.ensures, e.mask) in
    let shift : count_ones p.mask ≡ k = ap count_ones c.requires.step.1 ∙ ones-ones k in
    (λ i. (c.args.x + rest i) / 2 ^ shift i) ∙ count_each p (2 ^ k) e c.args.x
