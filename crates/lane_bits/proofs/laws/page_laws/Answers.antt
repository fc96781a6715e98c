use Rattle.lane_bits.proofs.Members.{has_elements, elements_ascend, elements_same}
use Rattle.lane_bits.proofs.laws.page_laws.Goals as goal

pub returns-clause-pass : goal.returns-clause-pass
returns-clause-pass c = has_elements

pub returns-clause-ascend : goal.returns-clause-ascend
returns-clause-ascend c = elements_ascend

pub returns-clause-same : goal.returns-clause-same
returns-clause-same c = elements_same
