use Rattle.turn_laws.proofs.Starts.{gives_registers, starts_grow}
use Rattle.turn_laws.proofs.laws.starts_grow.Goals as goal

pub returns-clause-start : goal.returns-clause-start
returns-clause-start c = starts_grow

pub returns-clause-registers : goal.returns-clause-registers
returns-clause-registers c = gives_registers
