use Rattle.rv_isa.proofs.Numbers.{read, small, whole}
use Rattle.rv_isa.proofs.laws.number_laws.Goals as goal

pub returns-clause-read : goal.returns-clause-read
returns-clause-read c = read

pub returns-clause-whole : goal.returns-clause-whole
returns-clause-whole c = whole

pub returns-clause-small : goal.returns-clause-small
returns-clause-small c = small
