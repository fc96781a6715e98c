use Rattle.std.proofs.Common.{rules}
use Rattle.std.proofs.lemmas.Fn.{filter_same}
use Rattle.dom_set.proofs.Walks.{alive_reaching}
use Rattle.dom_set.proofs.combined.resumed.Goals as goal

pub returns-then-old-from : goal.returns-then-old-from
returns-then-old-from c = λ ps. alive_reaching ps c.args.place c.args.old c.args.from c.args.alive.now.items c.retain.new.self.items c.if-old-from.true
    (filter_same _ _ _ (λ p b f' k. search rules) _ _ c.retain.ensures.filtered)
