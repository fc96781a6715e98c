use Rattle.std.proofs.Common.{IsTrue, sym, subst}
use Rattle.fd_prob.specs.declared.relation.Rel.{Rel}
use Rattle.fd_prob.specs.Relations.{holds}
use Rattle.case_search.proofs.classes.same_classes.Goals as goal

pub loop-rel-preserved : goal.loop-rel-preserved
loop-rel-preserved c op x hold = c.with_rel-classes.ensures op x (c.loop-rel.invariant op x hold)
    (subst (λ (r : Rel). IsTrue (holds op x r)) (sym c.rel-item.is) (hold c.loop-rel.rel-index c.rel-item.result c.loop-rel-test.true))
