use Rattle.std.proofs.Common.{◌+◌, ◌*◌, ◌^◌, ◌≤◌, sym, ◌∙◌, ap, arith, drop-cons, drop, get_or, suc}
use Rattle.tpl_lang.specs.Numbers.{digit_of, value_of}
use Rattle.tpl_token.proofs.Digits.{too_large, too_large_before}
use Rattle.tpl_token.proofs.number.whole.Goals as goal

pub returns-in_err-checked_mul : goal.returns-in_err-checked_mul
returns-in_err-checked_mul c =
    let i = c.loop-d.d-index in
    let here = drop-cons c.args.digits.now i 0 c.loop-d-test.true in
    rw c.from_residual.ensures (too_large_before c.args.base c.loop-d.value _ (get_or c.args.digits.now i 0) (drop (suc i) c.args.digits.now) c.requires (omega (arith, c.in_err-checked_mul.ensures))
    (ap (λ ds. value_of c.args.base c.loop-d.value ds) (sym here) ∙ c.loop-d.invariant.read))

pub returns-in_err-value : goal.returns-in_err-value
returns-in_err-value c =
    let i = c.loop-d.d-index in
    let here = drop-cons c.args.digits.now i 0 c.loop-d-test.true in
    let large : 2 ^ 32 ≤ c.loop-d.value * c.args.base + digit_of (get_or c.args.digits.now i 0) = omega (arith, c.in_err-value.ensures, c.in_ok-checked_mul.ensures.1, c.digit.ensures) in
    rw c.from_residual-in_err-value.ensures (too_large c.args.base (c.loop-d.value * c.args.base + digit_of (get_or c.args.digits.now i 0)) _ (drop (suc i) c.args.digits.now) c.requires large
    (ap (λ ds. value_of c.args.base c.loop-d.value ds) (sym here) ∙ c.loop-d.invariant.read))
