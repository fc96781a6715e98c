use Rattle.leaf_link.proofs.FetchAnswering.{fault_answers_are_exact, fetch_answers_are_exact}
use Rattle.leaf_link.proofs.fetch_laws.fetch_answers_are_exact.Goals as goal

pub returns-clause-fetches : goal.returns-clause-fetches
returns-clause-fetches c = fetch_answers_are_exact

pub returns-clause-faults : goal.returns-clause-faults
returns-clause-faults c = fault_answers_are_exact
