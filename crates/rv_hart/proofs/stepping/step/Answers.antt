use Rattle.std.proofs.Common.{ap, ◌∙◌, subst}
use Rattle.rv_script.specs.Folds.{Teller}
use Rattle.rv_hart.specs.Changes.{csrs_after, privilege_after}
use Rattle.rv_hart.specs.Clauses.{IsAfterWith, IsLocalStepWith, IsMachineStepWith}
use Rattle.rv_hart.specs.Machine.{script}
use Rattle.rv_hart.specs.Sighted.{answer_seen}
use Rattle.rv_hart.specs.View.{known, fixed_of, shown, control_in}
use Rattle.rv_hart.proofs.Steps.{none_sighted}
use Rattle.rv_hart.proofs.stepping.step.Goals as goal

pub returns-clause-machine : goal.returns-clause-machine
returns-clause-machine g c =
    let at = g.M.Words.at c.args.m.now in
    subst (λ (sights : Teller). IsMachineStepWith sights (fixed_of c.args.h.now at) (known c.args.h.now at) c.step_seen.result) none_sighted c.step_seen.ensures.machine

pub returns-clause-local : goal.returns-clause-local
returns-clause-local g c =
    let at = g.M.Words.at c.args.m.now in
    subst (λ (sights : Teller). IsLocalStepWith sights (fixed_of c.args.h.now at) (known c.args.h.now at) c.step_seen.result) none_sighted c.step_seen.ensures.local

pub returns-clause-after : goal.returns-clause-after
returns-clause-after g c =
    let at = g.M.Words.at c.args.m.now in
    let new_at = g.M.Words.at c.step_seen.new.m in
    subst (λ (sights : Teller). IsAfterWith sights (fixed_of c.args.h.now at) (known c.args.h.now at) c.step_seen.result (fixed_of c.step_seen.new.h new_at) (known c.step_seen.new.h new_at)) none_sighted c.step_seen.ensures.after

pub returns-clause-answer : goal.returns-clause-answer
returns-clause-answer g c =
    let at = g.M.Words.at c.args.m.now in
    c.step_seen.ensures.answer ∙ ap (λ (sights : Teller). shown (fixed_of c.args.h.now at) (answer_seen sights (known c.args.h.now at) (script (fixed_of c.args.h.now at)))) none_sighted

pub returns-clause-privilege : goal.returns-clause-privilege
returns-clause-privilege g c =
    let at = g.M.Words.at c.args.m.now in
    let h = c.args.h.now in
    c.step_seen.ensures.privilege
    ∙ ap (λ (sights : Teller). privilege_after h.privilege h.csrs.mstatus h.csrs.medeleg (control_in (answer_seen sights (known h at) (script (fixed_of h at))))) none_sighted

pub returns-clause-csrs : goal.returns-clause-csrs
returns-clause-csrs g c =
    let at = g.M.Words.at c.args.m.now in
    let h = c.args.h.now in
    c.step_seen.ensures.csrs ∙ ap (λ (sights : Teller). csrs_after h.privilege h.pc (control_in (answer_seen sights (known h at) (script (fixed_of h at)))) h.csrs) none_sighted
