use Rattle.word_sets.proofs.Listings.{entry_at}
use Rattle.word_sets.proofs.tables.value_at.Goals as goal

pub returns-in-Some-Some : goal.returns-in-Some-Some
returns-in-Some-Some c = entry_at c.args.table.now c.args.i c.in-Some-Some.value c.in-Some-Some.field-0.now c.in-Some-Some.field-0-is c.in-Some-Some.ensures.lookup.0 c.in-Some-Some.ensures.lookup.1
