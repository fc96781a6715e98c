use Rattle.tool_words.proofs.Asking.{accepted_ask, lie_in_ranges, one, out_of_range, plain_ask, start_with_names}
use Rattle.tool_words.proofs.laws.words_law.Goals as goal

pub returns-clause-one : goal.returns-clause-one
returns-clause-one c = one

pub returns-clause-accepted : goal.returns-clause-accepted
returns-clause-accepted c = accepted_ask

pub returns-clause-names : goal.returns-clause-names
returns-clause-names c = start_with_names

pub returns-clause-ranges : goal.returns-clause-ranges
returns-clause-ranges c = lie_in_ranges

pub returns-clause-plain : goal.returns-clause-plain
returns-clause-plain c = plain_ask

pub returns-clause-refused : goal.returns-clause-refused
returns-clause-refused c = out_of_range
