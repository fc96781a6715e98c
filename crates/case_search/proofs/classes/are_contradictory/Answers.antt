use Rattle.std.proofs.Common.{IsTrue, refl, sym, subst}
use Rattle.fd_prob.specs.declared.relation.Rel.{Rel}
use Rattle.fd_prob.specs.Relations.{holds}
use Rattle.case_search.proofs.classes.are_contradictory.Goals as goal

pub returns-then-is_denied : goal.returns-then-is_denied
returns-then-is_denied c said op x hold = c.if-is_denied.ensures refl op x (c.classes_of-classes.ensures op x hold)
    (subst (λ (r : Rel). IsTrue (holds op x r)) (sym c.rel-item.is) (hold c.loop-rel.rel-index c.rel-item.result c.loop-rel-test.true))
