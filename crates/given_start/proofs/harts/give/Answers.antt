use Rattle.std.proofs.Common.{◌≡◌, length, sym, ap, ◌∙◌, rules}
use Rattle.rv_csr.specs.State.{CsrValues}
use Rattle.given_start.specs.Knowledge.{known_at}
use Rattle.given_start.proofs.Lazy.{lazy_of, key_positive}
use Rattle.given_start.proofs.Knowledge.{known_reg_set, known_csr_set, untouched_named}
use Rattle.given_start.proofs.harts.give.Goals as goal

pub returns-then-key-lt32-clause-known : goal.returns-then-key-lt32-clause-known
returns-then-key-lt32-clause-known c = λ k.
    let size : length c.args.hart.now.regs ≡ 32 = search rules in
    known_reg_set c.args.hart.now.regs c.args.hart.now.csrs c.args.key c.args.value k size (key_positive c.args.key c.requires.key) c.if-key-lt32.true

pub start-requires-clause-untouched : goal.start-requires-clause-untouched
start-requires-clause-untouched c = untouched_named c.args.hart.now.regs c.args.hart.now.csrs c.args.key (lazy_of c.args.key c.if-key-lt32.false c.requires.key) c.requires.untouched

pub returns-else-key-lt32-clause-known : goal.returns-else-key-lt32-clause-known
returns-else-key-lt32-clause-known c = λ k.
    let h = c.args.hart.now in
    ap (λ (csrs : CsrValues). known_at h.regs csrs k) c.start.ensures.after
    ∙ known_csr_set h.regs h.csrs c.args.key c.args.value k (ap (λ (csrs : CsrValues). length csrs.lazy) (sym c.start.ensures.after) ∙ c.start.ensures.legal.lazy.size) (lazy_of c.args.key c.if-key-lt32.false c.requires.key)
