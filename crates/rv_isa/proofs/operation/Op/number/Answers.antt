use Rattle.rv_isa.proofs.Numbers.{small, tag_is}
use Rattle.rv_isa.proofs.operation.Op.number.Goals as goal

pub returns-clause-number : goal.returns-clause-number
returns-clause-number c = tag_is c.args.self

pub returns-clause-small : goal.returns-clause-small
returns-clause-small c = rw (tag_is c.args.self) (small c.args.self)
