use Rattle.std.proofs.Common.{◌≡◌, true, sym, ap, ◌∙◌, arith}
use Rattle.rv_script.specs.Folds.{prefixed}
use Rattle.rv_hart.specs.Privileged.{reads_csr}
use Rattle.rv_hart.proofs.CsrPlaces.{exchanged}
use Rattle.rv_hart.proofs.privileged.granted.Goals.{else-is_swap-via-then-is_swap+else-i-eq0, else-is_swap-via-else-is_swap}
use Rattle.rv_hart.proofs.privileged.granted.Goals as goal

pub returns-then-writes-clause-answer : goal.returns-then-writes-clause-answer
returns-then-writes-clause-answer g c =
    let reads : reads_csr c.args.i.now ≡ true = elim c.else-is_swap.branch [
      | else-is_swap-via-then-is_swap+else-i-eq0 w ↦ grind arith
      | else-is_swap-via-else-is_swap w ↦ grind arith
    ] in
    c.write_csr-then-writes.ensures.answer
    ∙ ap (prefixed c.args.log.now)
    (exchanged (g.M.Sighted.sights c.args.m.now) c.args.h.now (g.M.Words.at c.args.m.now) c.args.word c.args.i.now c.args.writes c.args.register c.args.operand c.in-Some.old c.rd_of-rd.result
    c.csr_result-value.result reads (sym c.value_of.ensures ∙ c.in-Some.is) c.if-writes.true c.rd_of-rd.ensures c.csr_result-value.ensures)
