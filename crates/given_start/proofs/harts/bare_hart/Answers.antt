use Rattle.std.proofs.Common.{ℕ, List, Option, ap, ◌∙◌}
use Rattle.rv_csr.specs.State.{CsrValues}
use Rattle.rv_hart.specs.Registers.{no_registers}
use Rattle.given_start.specs.Knowledge.{known_at}
use Rattle.given_start.proofs.Knowledge.{known_new}
use Rattle.given_start.proofs.harts.bare_hart.Goals as goal

pub returns-clause-known : goal.returns-clause-known
returns-clause-known c = λ key.
    let state = c.args.state.now in
    ap (λ (regs : List (Option ℕ)). known_at regs c.new.result.csrs key) c.new.ensures.regs
    ∙ ap (λ (csrs : CsrValues). known_at no_registers csrs key) (c.new.ensures.csrs ∙ c.new-csrs.ensures.values) ∙ known_new c.args.number state.mstatus state.medeleg state.satp key
