use Rattle.std.proofs.Common.{◌≡◌, ◌≢◌, length, sym, ◌∙◌, rules, arith}
use Rattle.given_start.specs.Knowledge.{known_of}
use Rattle.given_start.proofs.Knowledge.{known_reg_set, known_small}
use Rattle.rv_system.proofs.Filled.{place_given, place_kept}
use Rattle.rv_system.proofs.filling.fill_register.Goals as goal

pub returns-then-is_none-clause-known : goal.returns-then-is_none-clause-known
returns-then-is_none-clause-known c =
    let h = c.args.hart.now in
    let size : length h.regs ≡ 32 = search rules in
    let some : c.args.key ≢ 0 = λ same. absurd (omega (arith, same, c.requires.some)) in
    place_given (known_of h) _ c.args.key c.args.value c.register.result (known_small h.regs h.csrs c.args.key c.requires.small some ∙ sym c.register.ensures) c.if-is_none.ensures
    (λ k. known_reg_set h.regs h.csrs c.args.key c.args.value k size c.requires.some c.requires.small)

pub returns-else-is_none-clause-known : goal.returns-else-is_none-clause-known
returns-else-is_none-clause-known c =
    let h = c.args.hart.now in
    let some : c.args.key ≢ 0 = λ same. absurd (omega (arith, same, c.requires.some)) in
    place_kept (known_of h) c.args.key c.args.value c.register.result (known_small h.regs h.csrs c.args.key c.requires.small some ∙ sym c.register.ensures) c.if-is_none.ensures
