use Rattle.turn_laws.proofs.Ahead.{one_more_given, short, underway}
use Rattle.turn_laws.proofs.laws.places_are_next.Goals as goal

pub returns-clause-next : goal.returns-clause-next
returns-clause-next c = underway

pub returns-clause-short : goal.returns-clause-short
returns-clause-short c = short

pub returns-clause-appended : goal.returns-clause-appended
returns-clause-appended c = one_more_given
