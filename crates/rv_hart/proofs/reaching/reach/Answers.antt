use Rattle.std.proofs.Common.{◌≡◌, ◌++◌, ℕ, List, map, refl, sym, ap, ◌∙◌}
use Rattle.rv_script.specs.declared.access.Access.{Access}
use Rattle.rv_script.specs.Folds.{Answer, Teller, and_then, prefixed}
use Rattle.sv_walk.specs.Clauses.{ended, entry_access}
use Rattle.sv_walk.specs.Translation.{Reached, At, Fails}
use Rattle.rv_hart.specs.Machine.{arriving}
use Rattle.rv_hart.specs.Sighted.{answer_seen, sighted}
use Rattle.rv_hart.specs.View.{fixed_of, known}
use Rattle.rv_hart.proofs.Reaches.{reached_behind, reached_by}
use Rattle.rv_hart.proofs.reaching.reach.Goals as goal

pub returns-in-Pa-clause-answer : goal.returns-in-Pa-clause-answer
returns-in-Pa-clause-answer g c next =
    let at = g.M.Words.at c.args.m.now in
    let sights : Teller = sighted (g.M.Sighted.sights c.args.m.now) in
    let k = known c.args.h.now at in
    let f = fixed_of c.args.h.now at in
    let ptes = c.walk_with-walk.result.ptes in
    let put : c.note.new.log ≡ c.args.log.now ++ map entry_access ptes = c.note.ensures.entries ∙ ap (λ (es : List (ℕ × ℕ)). c.args.log.now ++ map entry_access es) c.as_slice.ensures in
    reached_behind sights k f c.args.word c.args.v c.args.kind c.args.va c.args.log.now c.note.new.log ptes c.walk_with-walk.result.outcome (c.walk_with-walk.ensures.answer k (λ addr. refl)) put (At c.in-Pa.pa) (ap (ended ptes) c.in-Pa.is) next

pub returns-in-Fault-clause-answer : goal.returns-in-Fault-clause-answer
returns-in-Fault-clause-answer g c next =
    let at = g.M.Words.at c.args.m.now in
    let sights : Teller = sighted (g.M.Sighted.sights c.args.m.now) in
    let k = known c.args.h.now at in
    let f = fixed_of c.args.h.now at in
    let ptes = c.walk_with-walk.result.ptes in
    let put : c.note.new.log ≡ c.args.log.now ++ map entry_access ptes = c.note.ensures.entries ∙ ap (λ (es : List (ℕ × ℕ)). c.args.log.now ++ map entry_access es) c.as_slice.ensures in
    c.trap.ensures.answer ∙ reached_behind sights k f c.args.word c.args.v c.args.kind c.args.va c.args.log.now c.note.new.log ptes c.walk_with-walk.result.outcome (c.walk_with-walk.ensures.answer k (λ addr. refl)) put (Fails c.in-Fault.cause) (ap (ended ptes) c.in-Fault.is) next

pub returns-in-Missing-clause-answer : goal.returns-in-Missing-clause-answer
returns-in-Missing-clause-answer g c next =
    let at = g.M.Words.at c.args.m.now in
    let sights : Teller = sighted (g.M.Sighted.sights c.args.m.now) in
    let k = known c.args.h.now at in
    let f = fixed_of c.args.h.now at in
    let ptes = c.walk_with-walk.result.ptes in
    sym (ap (prefixed c.args.log.now) (reached_by sights k f c.args.word c.args.v c.args.kind c.args.va ptes c.walk_with-walk.result.outcome (c.walk_with-walk.ensures.answer k (λ addr. refl)) next ∙ ap (λ (a : Answer Access Reached). and_then a (λ r. answer_seen sights k (arriving f c.args.word c.args.va next r))) (ap (ended ptes) c.in-Missing.is)))

pub returns-in-Outside-clause-answer : goal.returns-in-Outside-clause-answer
returns-in-Outside-clause-answer g c next =
    let at = g.M.Words.at c.args.m.now in
    let sights : Teller = sighted (g.M.Sighted.sights c.args.m.now) in
    let k = known c.args.h.now at in
    let f = fixed_of c.args.h.now at in
    let ptes = c.walk_with-walk.result.ptes in
    sym (ap (prefixed c.args.log.now) (reached_by sights k f c.args.word c.args.v c.args.kind c.args.va ptes c.walk_with-walk.result.outcome (c.walk_with-walk.ensures.answer k (λ addr. refl)) next ∙ ap (λ (a : Answer Access Reached). and_then a (λ r. answer_seen sights k (arriving f c.args.word c.args.va next r))) (ap (ended ptes) c.in-Outside.is)))
