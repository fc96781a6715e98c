use Rattle.std.proofs.Common.{List, IsTrue, sym, subst}
use Rattle.std.proofs.lemmas.List.{take_all}
use Rattle.near_marks.specs.declared.steps.Steps.{Steps}
use Rattle.near_marks.specs.Internal.Near.{is_at_one}
use Rattle.near_marks.proofs.grid.hull.Goals as goal

pub returns-clause-around : goal.returns-clause-around
returns-clause-around c = λ n h. c.loop-steps.invariant.around n (subst (λ (d : List Steps). IsTrue (is_at_one d n)) (sym (take_all c.loop-steps.steps-index c.args.all.now c.loop-steps-test.false)) h)
