use Rattle.std.proofs.Common.{sym, ◌∙◌}
use Rattle.leaf_stand.proofs.Cutting.{said_cut, unsaid_cut}
use Rattle.leaf_stand.proofs.stand.Stand.push_cut.Goals as goal

pub returns-then-not-speak_of : goal.returns-then-not-speak_of
returns-then-not-speak_of c = unsaid_cut c.args.self.now c.args.bias.now c.args.slot c.in-Some.var c.args.cuts.now c.in-Some.ensures (sym c.speak_of.ensures ∙ c.if-not-speak_of.true)

pub returns : goal.returns
returns c = said_cut c.args.self.now c.args.bias.now c.args.slot c.in-Some.var c.args.cuts.now c.push.new.self c.in_ok-cut.cut c.in-Some.ensures c.in_ok-cut.ensures c.in_ok-push.ensures.ok
