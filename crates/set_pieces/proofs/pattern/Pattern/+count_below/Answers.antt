use Rattle.std.proofs.Common.{◌≡◌, ◌/◌, ◌%◌, ◌≤◌, sym, ap, ◌∙◌, arith}
use Rattle.std.proofs.lemmas.Bool.{ne_eqb}
use Rattle.set_pieces.specs.Counting.{one}
use Rattle.set_pieces.specs.Internal.Patterns.{matches}
use Rattle.set_pieces.proofs.Halving.{IsHalf, byte_is, one_most, count_most, count_all, count_free, count_even, count_odd}
use Rattle.set_pieces.proofs.pattern.Pattern.+count_below.Goals as goal
use Rattle.set_pieces.proofs.pattern.Pattern.+count_below.Goals.{then-x-eq1, else-x-eq1}

pub returns-then-self-eq0 : goal.returns-then-self-eq0
returns-then-self-eq0 t c = sym (count_all c.args.self c.if-self-eq0.true c.args.x)

pub returns-then-self-eq0-2 : goal.returns-then-self-eq0-2
returns-then-self-eq0-2 t c =
    let half : IsHalf c.args.self c.half-half.result = record { mask = c.half-half.ensures.mask; bits = c.half-half.ensures.bits } in
    let odd : c.args.x % 2 ≡ 1 → c.from-last.result ≡ one (matches c.half-half.result (c.args.x / 2)) =
    λ o. elim c.if-x-eq1.branch [
      | then-x-eq1 w ↦ c.from-last.ensures ∙ byte_is _ ∙ ap one (w.from-is ∙ w.matches.ensures)
      | else-x-eq1 w ↦ absurd (omega arith)
    ] in
    let even : c.args.x % 2 ≡ 0 → c.from-last.result ≡ 0 =
    λ e. elim c.if-x-eq1.branch [
      | then-x-eq1 w ↦ absurd (omega arith)
      | else-x-eq1 w ↦ c.from-last.ensures ∙ byte_is _ ∙ ap one (w.from-is ∙ ne_eqb _ _ w.if-x-eq1.false)
    ] in
    omega (arith, count_free c.args.self c.half-half.result c.args.x c.from-last.result half c.if-self-eq0-2.true odd even)

pub returns-then-self-eq0-3 : goal.returns-then-self-eq0-3
returns-then-self-eq0-3 t c =
    let half : IsHalf c.args.self c.half-half.result = record { mask = c.half-half.ensures.mask; bits = c.half-half.ensures.bits } in
    let odd : c.args.x % 2 ≡ 1 → c.from-last.result ≡ one (matches c.half-half.result (c.args.x / 2)) =
    λ o. elim c.if-x-eq1.branch [
      | then-x-eq1 w ↦ c.from-last.ensures ∙ byte_is _ ∙ ap one (w.from-is ∙ w.matches.ensures)
      | else-x-eq1 w ↦ absurd (omega arith)
    ] in
    let even : c.args.x % 2 ≡ 0 → c.from-last.result ≡ 0 =
    λ e. elim c.if-x-eq1.branch [
      | then-x-eq1 w ↦ absurd (omega arith)
      | else-x-eq1 w ↦ c.from-last.ensures ∙ byte_is _ ∙ ap one (w.from-is ∙ ne_eqb _ _ w.if-x-eq1.false)
    ] in
    omega (arith, count_even c.args.self c.half-half.result c.args.x c.from-last.result half (omega arith) c.if-self-eq0-3.true odd even)

pub returns-else-self-eq0-3 : goal.returns-else-self-eq0-3
returns-else-self-eq0-3 t c =
    c.count_below-pairs.ensures ∙ sym (count_odd c.args.self c.half-half.result c.args.x (record { mask = c.half-half.ensures.mask; bits = c.half-half.ensures.bits }) (omega arith) (omega arith))

pub overflow_add-result : goal.overflow_add-result
overflow_add-result t c = omega (arith, count_most c.half-half.result (c.args.x / 2))

pub overflow_add-result-then-self-eq0-2 : goal.overflow_add-result-then-self-eq0-2
overflow_add-result-then-self-eq0-2 t c =
    let last : c.from-last.result ≤ 1 = rw (c.from-last.ensures, byte_is c.if-x-eq1.from) (one_most c.if-x-eq1.from) in
    omega (arith, count_most c.half-half.result (c.args.x / 2))

pub overflow_add-result-then-self-eq0-3 : goal.overflow_add-result-then-self-eq0-3
overflow_add-result-then-self-eq0-3 t c =
    let last : c.from-last.result ≤ 1 = rw (c.from-last.ensures, byte_is c.if-x-eq1.from) (one_most c.if-x-eq1.from) in
    omega (arith, count_most c.half-half.result (c.args.x / 2))
