use Rattle.std.proofs.Common.{◌≡◌, ℕ, List, length, ap, ◌∙◌, sym, subst, rules}
use Rattle.rv_mem.specs.declared.words.Seen.{Seen}
use Rattle.rv_script.specs.declared.access.Access.{Access}
use Rattle.rv_script.specs.Folds.{Answer, Teller}
use Rattle.rv_hart.specs.declared.hart.Hart.{Hart}
use Rattle.rv_hart.specs.declared.record.Change.{Change}
use Rattle.rv_hart.specs.declared.record.Stepped.{Stepped}
use Rattle.rv_hart.specs.declared.record.Stepped.TheVariants.{Did}
use Rattle.rv_hart.specs.Clauses.{IsAfterWith}
use Rattle.rv_hart.specs.Effects.{seen_after}
use Rattle.rv_hart.specs.Machine.{script}
use Rattle.rv_hart.specs.Sighted.{answer_seen, sighted}
use Rattle.rv_hart.specs.View.{known, fixed_of, shown, accesses_in}
use Rattle.rv_hart.specs.Whole.{record_of}
use Rattle.rv_hart.proofs.Afters.{done, comes}
use Rattle.rv_hart.proofs.Steps.{machine_step, local_step}
use Rattle.rv_hart.proofs.stepping.step_seen.Goals as goal

pub returns-in-Some-clause-machine : goal.returns-in-Some-clause-machine
returns-in-Some-clause-machine g c = machine_step (sighted (g.S.Sights.words c.args.s.now)) (fixed_of c.args.h.now (g.M.Words.at c.args.m.now)) (known c.args.h.now (g.M.Words.at c.args.m.now)) c.observe-result.result.0 c.observe-result.ensures.answer

pub returns-in_default-clause-machine : goal.returns-in_default-clause-machine
returns-in_default-clause-machine g c = machine_step (sighted (g.S.Sights.words c.args.s.now)) (fixed_of c.args.h.now (g.M.Words.at c.args.m.now)) (known c.args.h.now (g.M.Words.at c.args.m.now)) c.observe-result.result.0 c.observe-result.ensures.answer

pub returns-in-Some-clause-local : goal.returns-in-Some-clause-local
returns-in-Some-clause-local g c = local_step (sighted (g.S.Sights.words c.args.s.now)) (fixed_of c.args.h.now (g.M.Words.at c.args.m.now)) (known c.args.h.now (g.M.Words.at c.args.m.now)) c.observe-result.result.0 c.observe-result.ensures.answer

pub returns-in-Some-clause-after : goal.returns-in-Some-clause-after
returns-in-Some-clause-after g c =
    let h : Hart = c.args.h.now in
    let new : Hart = c.take.new.self in
    let at : ℕ → Seen = g.M.Words.at c.args.m.now in
    let new_at : ℕ → Seen = g.M.Words.at c.apply_all.new.m in
    let change : Change = c.in-Some.change in
    let sights : Teller = sighted (g.S.Sights.words c.args.s.now) in
    let answer : Answer Access Change = answer_seen sights (known h at) (script (fixed_of h at)) in
    let come = comes answer change (sym c.in-Some.is ∙ c.observe-result.ensures.change) in
    let is : c.observe-result.result.0 ≡ Did (record_of (fixed_of h at) come.accesses change) = c.observe-result.ensures.answer ∙ ap (λ (a : Answer Access Change). shown (fixed_of h at) a) come.is in
    let regs : length h.regs ≡ 32 = search rules in
    let csrs : length h.csrs.lazy ≡ 10 = c.observe-result.ensures.legal.lazy.size in
    let fit = c.observe-result.ensures.fit change c.in-Some.is in
    subst (λ (q : Stepped). IsAfterWith sights (fixed_of h at) (known h at) q (fixed_of new new_at) (known new new_at)) (sym is)
    (done sights h new at new_at come.accesses change come.is (record {
      pc = c.take.ensures.pc;
      privilege = c.take.ensures.privilege;
      regs = c.take.ensures.regs;
      csrs = c.take.ensures.csrs;
      memory = λ n. c.apply_all.ensures n ∙ ap (λ (xs : List Access). seen_after xs at n) (c.accesses_of.ensures ∙ ap (λ (q : Stepped). accesses_in q) is);
      rd = fit.rd;
      regs_size = regs;
      csrs_size = csrs;
    }))
