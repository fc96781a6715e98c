use Rattle.leaf_link.proofs.InDomains.{candidates_are_in_domains, candidates_are_words, old_domains_are_let, old_values_are_in_domains}
use Rattle.leaf_link.proofs.leaf_laws.candidates_are_in_domains.Goals as goal

pub returns-clause-domains : goal.returns-clause-domains
returns-clause-domains c = candidates_are_in_domains

pub returns-clause-words : goal.returns-clause-words
returns-clause-words c = candidates_are_words

pub returns-clause-old_values : goal.returns-clause-old_values
returns-clause-old_values c = old_values_are_in_domains

pub returns-clause-old_domains : goal.returns-clause-old_domains
returns-clause-old_domains c = old_domains_are_let
