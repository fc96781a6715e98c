use Rattle.turn_laws.proofs.Entered.{entering, fetch_walked, walks_short}
use Rattle.turn_laws.proofs.laws.entries_are_next.Goals as goal

pub returns-clause-next : goal.returns-clause-next
returns-clause-next c = entering

pub returns-clause-short : goal.returns-clause-short
returns-clause-short c = walks_short

pub returns-clause-candidates : goal.returns-clause-candidates
returns-clause-candidates c = fetch_walked
