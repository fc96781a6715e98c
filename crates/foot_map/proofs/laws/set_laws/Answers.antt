use Rattle.foot_map.proofs.Members.{same_triples}
use Rattle.foot_map.proofs.Masks.{undone}
use Rattle.foot_map.proofs.laws.set_laws.Goals as goal

pub returns-clause-same : goal.returns-clause-same
returns-clause-same c = same_triples

pub returns-clause-undone : goal.returns-clause-undone
returns-clause-undone c = undone
