use Rattle.std.proofs.Common.{ℕ, List, IsTrue, sym, subst}
use Rattle.std.proofs.lemmas.List.{take_all}
use Rattle.dom_set.specs.Elements.{is_in}
use Rattle.set_sums.proofs.remainders.classes_of.Goals as goal

pub returns : goal.returns
returns c = λ n v w first other leaves. c.loop-first.invariant n v w (subst (λ (d : List ℕ). IsTrue (is_in d v)) (sym (take_all c.loop-first.first-index c.args.firsts.now c.loop-first-test.false)) first) other leaves
