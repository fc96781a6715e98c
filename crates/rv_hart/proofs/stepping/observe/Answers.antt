use Rattle.std.proofs.Common.{Some, None}
use Rattle.std.proofs.lemmas.Option.{get_or_from_slice_get}
use Rattle.rv_hart.specs.Sighted.{sighted}
use Rattle.rv_hart.specs.View.{known, fixed_of}
use Rattle.rv_hart.proofs.Fits.{fit_accesses, fit_lacked}
use Rattle.rv_hart.proofs.stepping.observe.Goals as goal

pub returns-in-Does-clause-kept : goal.returns-in-Does-clause-kept
returns-in-Does-clause-kept g c =
    let h = c.args.h.now in
    let at = g.M.Words.at c.args.m.now in
    c.record_of.ensures.fit (fit_accesses (sighted (g.S.Sights.words c.args.s.now)) (fixed_of h at) (known h at) c.look_at.new.log c.in-Does.change h.aligned c.in-Does.ensures.answer)

pub returns-in-Missing-clause-kept : goal.returns-in-Missing-clause-kept
returns-in-Missing-clause-kept g c =
    let h = c.args.h.now in
    let at = g.M.Words.at c.args.m.now in
    fit_lacked (sighted (g.S.Sights.words c.args.s.now)) (fixed_of h at) (known h at) c.in-Missing.place h.aligned (get_or_from_slice_get h.regs 0 (Some 0) None h.zero) c.in-Missing.ensures.answer
