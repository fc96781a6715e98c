use Rattle.std.proofs.Common.{◌≡◌, ℕ, ◌&&◌, leb, ltb, ap, ◌∙◌, arith}
use Rattle.given_start.specs.Knowledge.{known_of}
use Rattle.rv_system.proofs.Filled.{next_register, with_places}
use Rattle.rv_system.proofs.filling.fill_registers.Goals as goal

pub loop-key-preserved : goal.loop-key-preserved
loop-key-preserved c = record {
  known = next_register (known_of c.args.hart.now) (known_of c.loop-key.hart) (known_of c.fill_register.new.hart) c.loop-key.key c.args.value c.loop-key.auto.key c.loop-key.invariant.known c.fill_register.ensures.known;
  fixed = λ ram. c.fill_register.ensures.fixed ram ∙ c.loop-key.invariant.fixed ram;
}

pub returns-clause-known : goal.returns-clause-known
returns-clause-known c = λ k.
    let end : c.loop-key.key ≡ 32 = omega (arith, c.loop-key-test.false, c.loop-key.auto.key-end) in
    c.loop-key.invariant.known k ∙ ap (λ (n : ℕ). with_places (leb 1 k && ltb k n) c.args.value (known_of c.args.hart.now k)) end
