use Rattle.leaf_link.proofs.Agreeing.{fault_answers_agree, fetch_answers_agree}
use Rattle.leaf_link.proofs.Existing.{fault_answers_exist, fetch_answers_exist}
use Rattle.leaf_link.proofs.fetch_laws.fetches_have_one_answer.Goals as goal

pub returns-clause-fetches : goal.returns-clause-fetches
returns-clause-fetches c = fetch_answers_agree

pub returns-clause-faults : goal.returns-clause-faults
returns-clause-faults c = fault_answers_agree

pub returns-clause-some_of_fetches : goal.returns-clause-some_of_fetches
returns-clause-some_of_fetches c = fetch_answers_exist

pub returns-clause-some_of_faults : goal.returns-clause-some_of_faults
returns-clause-some_of_faults c = fault_answers_exist
