use Rattle.leaf_link.proofs.FourWords.{new_words_are_four}
use Rattle.leaf_link.proofs.Located.{places_have_values}
use Rattle.leaf_link.proofs.Placing.{values_are_instructions}
use Rattle.leaf_link.proofs.SatpKept.{steps_keep_satp}
use Rattle.leaf_link.proofs.leaf_laws.values_are_by_places.Goals as goal

pub returns-clause-places : goal.returns-clause-places
returns-clause-places c = places_have_values

pub returns-clause-instructions : goal.returns-clause-instructions
returns-clause-instructions c = values_are_instructions

pub returns-clause-control : goal.returns-clause-control
returns-clause-control c = steps_keep_satp

pub returns-clause-words : goal.returns-clause-words
returns-clause-words c = new_words_are_four
