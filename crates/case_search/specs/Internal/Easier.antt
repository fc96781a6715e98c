-- Cases with fewer relations.
use Rattle.std.specs.Prelude.{◌≡◌, false, List, All}
use Rattle.rv_isa.specs.declared.operation.Op.{Op}
use Rattle.fd_narrow.specs.Narrowing.{AllHold}
use Rattle.fd_prob.specs.declared.problem.Assignment.{Assignment}
use Rattle.fd_prob.specs.declared.problem.Case.{Case}
use Rattle.fd_prob.specs.declared.relation.Rel.{Rel}
use Rattle.fd_prob.specs.declared.slot.Slot.{Slot}
use Rattle.fd_prob.specs.Mentions.{mentions}

-- none of them looks at the variable, and they hold where the relations do
pub record AreBlind (s : Slot) (rels left : List Rel) : Type 0 where
  pub blind : All (λ r. mentions r s ≡ false) left
  pub fewer : (op : Op) (x : Assignment) → AllHold op rels x → AllHold op left x

-- a case of the same operation with such relations
pub record IsEasier (s : Slot) (c easier : Case) : Type 0 where
  pub op : easier.op ≡ c.op
  pub rels : AreBlind s c.rels easier.rels
