use Rattle.rv_isa.specs.declared.operation.Op.{Op}
use Rattle.fd_prob.specs.declared.problem.Assignment.{Assignment}
use Rattle.fd_narrow.specs.Narrowing.{AllHold}
use Rattle.case_search.specs.Internal.Classes.{AreClasses}
use Rattle.case_search.proofs.classes.same_classes.Given as goal

abbrev pub invariant-loop-rel : goal.invariant-loop-rel
invariant-loop-rel l = (op : Op) (x : Assignment) → AllHold op l.rels x → AreClasses l.classes x
