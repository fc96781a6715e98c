use Rattle.dom_set.proofs.Sets.{Contains-elements, ascending, elements_same, is_in_tests, own_elements}
use Rattle.dom_set.proofs.Powers.{power_from_test}
use Rattle.dom_set.proofs.laws.set_laws.Goals as goal

pub returns-clause-pass : goal.returns-clause-pass
returns-clause-pass c = Contains-elements

pub returns-clause-ascend : goal.returns-clause-ascend
returns-clause-ascend c = ascending

pub returns-clause-same : goal.returns-clause-same
returns-clause-same c = elements_same

pub returns-clause-tests : goal.returns-clause-tests
returns-clause-tests c = is_in_tests

pub returns-clause-lists : goal.returns-clause-lists
returns-clause-lists c = own_elements

pub returns-clause-powers : goal.returns-clause-powers
returns-clause-powers c = power_from_test
