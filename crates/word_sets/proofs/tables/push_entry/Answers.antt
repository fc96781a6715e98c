use Rattle.word_sets.proofs.Listings.{listed_more}
use Rattle.word_sets.proofs.tables.push_entry.Goals as goal

pub returns-in_ok-push-in-Some-2 : goal.returns-in_ok-push-in-Some-2
returns-in_ok-push-in-Some-2 c =
    listed_more c.args.table.now c.args.entries.now.indices.items c.args.entries.now.values.items c.push-in-Some.new.self.items c.push.new.self.items c.args.i c.in-Some.value c.in-Some.ensures c.requires c.in_ok-push-in-Some-2.ensures.items c.in_ok-push-in-Some.ensures.items
