use Rattle.rv_script.proofs.Plays.{labelled_one, play_same, told}
use Rattle.rv_script.proofs.laws.play_laws.Goals as goal

pub returns-clause-told : goal.returns-clause-told
returns-clause-told g c = told

pub returns-clause-same : goal.returns-clause-same
returns-clause-same g c = play_same

pub returns-clause-once : goal.returns-clause-once
returns-clause-once g c s n m tell log a = labelled_one n m s tell log a
