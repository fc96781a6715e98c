use Rattle.std.proofs.Common.{ap, ◌∙◌}
use Rattle.rv_script.specs.Folds.{Teller}
use Rattle.rv_hart.specs.Machine.{script}
use Rattle.rv_hart.specs.Sighted.{no_sights, answer_seen}
use Rattle.rv_hart.specs.View.{known, fixed_of, shown}
use Rattle.rv_hart.proofs.Steps.{machine_step, local_step, none_sighted}
use Rattle.rv_hart.proofs.stepping.look.Goals as goal

pub returns-clause-answer : goal.returns-clause-answer
returns-clause-answer g c =
    let at = g.M.Words.at c.args.m.now in
    c.observe.ensures.answer ∙ ap (λ (sights : Teller). shown (fixed_of c.args.h.now at) (answer_seen sights (known c.args.h.now at) (script (fixed_of c.args.h.now at)))) none_sighted

pub returns-clause-machine : goal.returns-clause-machine
returns-clause-machine g c =
    let at = g.M.Words.at c.args.m.now in
    machine_step no_sights (fixed_of c.args.h.now at) (known c.args.h.now at) c.observe.result.0
    (c.observe.ensures.answer ∙ ap (λ (sights : Teller). shown (fixed_of c.args.h.now at) (answer_seen sights (known c.args.h.now at) (script (fixed_of c.args.h.now at)))) none_sighted)

pub returns-clause-local : goal.returns-clause-local
returns-clause-local g c =
    let at = g.M.Words.at c.args.m.now in
    local_step no_sights (fixed_of c.args.h.now at) (known c.args.h.now at) c.observe.result.0
    (c.observe.ensures.answer ∙ ap (λ (sights : Teller). shown (fixed_of c.args.h.now at) (answer_seen sights (known c.args.h.now at) (script (fixed_of c.args.h.now at)))) none_sighted)
