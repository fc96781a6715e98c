use Rattle.leaf_link.proofs.EntryPlaces.{fault_places_have_values, fault_words_are_two, faults_are_unfetched, faults_keep_satp, fetch_places_have_values, fetch_words_are_two}
use Rattle.leaf_link.proofs.fetch_laws.entries_are_by_places.Goals as goal

pub returns-clause-fetches : goal.returns-clause-fetches
returns-clause-fetches c = fetch_places_have_values

pub returns-clause-faults : goal.returns-clause-faults
returns-clause-faults c = fault_places_have_values

pub returns-clause-fetch_words : goal.returns-clause-fetch_words
returns-clause-fetch_words c = fetch_words_are_two

pub returns-clause-fault_words : goal.returns-clause-fault_words
returns-clause-fault_words c = fault_words_are_two

pub returns-clause-control : goal.returns-clause-control
returns-clause-control c = faults_keep_satp

pub returns-clause-unfetched : goal.returns-clause-unfetched
returns-clause-unfetched c = faults_are_unfetched
