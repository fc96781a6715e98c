use Rattle.std.proofs.Common.{length, sym, ap, ◌∙◌}
use Rattle.rv_csr.specs.State.{CsrValues}
use Rattle.given_start.specs.Knowledge.{known_at, known_of}
use Rattle.given_start.proofs.Lazy.{lazy_of}
use Rattle.given_start.proofs.Knowledge.{known_csr_set, known_large}
use Rattle.rv_system.proofs.Filled.{place_given, place_kept}
use Rattle.rv_system.proofs.filling.fill_csr.Goals as goal

pub returns-then-is_none-clause-known : goal.returns-then-is_none-clause-known
returns-then-is_none-clause-known c =
    let h = c.args.hart.now in
    place_given (known_of h) _ c.args.key c.args.value c.lazy_at.result (known_large h.regs h.csrs c.args.key c.requires.large ∙ sym c.lazy_at.ensures) c.if-is_none.ensures
    (λ k.
    ap (λ (csrs : CsrValues). known_at h.regs csrs k) c.start.ensures.after
    ∙ known_csr_set h.regs h.csrs c.args.key c.args.value k (ap (λ (csrs : CsrValues). length csrs.lazy) (sym c.start.ensures.after) ∙ c.start.ensures.legal.lazy.size) (lazy_of c.args.key c.requires.large c.requires.key))

pub returns-else-is_none-clause-known : goal.returns-else-is_none-clause-known
returns-else-is_none-clause-known c =
    let h = c.args.hart.now in
    place_kept (known_of h) c.args.key c.args.value c.lazy_at.result (known_large h.regs h.csrs c.args.key c.requires.large ∙ sym c.lazy_at.ensures) c.if-is_none.ensures
