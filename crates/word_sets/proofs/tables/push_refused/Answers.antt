use Rattle.std.proofs.Common.{◌≡◌, false, sym, ◌∙◌}
use Rattle.dom_set.specs.Elements.{is_in}
use Rattle.word_sets.proofs.Listings.{refused_more}
use Rattle.word_sets.proofs.tables.push_refused.Goals as goal

pub returns-in_ok-push-in-Some : goal.returns-in_ok-push-in-Some
returns-in_ok-push-in-Some c =
    let out : is_in c.args.values.now c.in-Some.value ≡ false = sym c.has.ensures.test ∙ c.if-has.false in
    refused_more c.args.table.now c.args.values.now c.args.indices.now.items c.push.new.self.items c.args.i c.in-Some.value c.in-Some.ensures out c.requires c.in_ok-push-in-Some.ensures.items
