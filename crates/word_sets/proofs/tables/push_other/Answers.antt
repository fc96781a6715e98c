use Rattle.word_sets.proofs.Listings.{others_more}
use Rattle.word_sets.proofs.tables.push_other.Goals as goal

pub returns-in_ok-push-in-Some : goal.returns-in_ok-push-in-Some
returns-in_ok-push-in-Some c = others_more c.args.table.now c.args.indices.now.items c.push.new.self.items c.args.i c.in-Some.value c.in-Some.ensures c.if-value-i.false c.requires c.in_ok-push-in-Some.ensures.items
