use Rattle.std.proofs.Common.{ℕ, List, IsTrue, sym, subst}
use Rattle.std.proofs.lemmas.List.{take_all}
use Rattle.dom_set.specs.Elements.{is_in}
use Rattle.set_sums.proofs.remainders.push_classes.Goals as goal

pub returns-clause-classes : goal.returns-clause-classes
returns-clause-classes c = λ n w among leaves. c.loop-other.invariant.classes n w (subst (λ (d : List ℕ). IsTrue (is_in d w)) (sym (take_all c.loop-other.other-index c.args.others.now c.loop-other-test.false)) among) leaves
