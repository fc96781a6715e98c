use Rattle.leaf_pose.proofs.Targets.{asked_target, unasked_target, unused_target}
use Rattle.std.proofs.Common.{rules, sym, ◌∙◌}
use Rattle.leaf_pose.proofs.relations.push_target.Goals as goal

pub returns-then-not-used : goal.returns-then-not-used
returns-then-not-used c = unused_target c.args.stand.now c.args.leaf.now c.args.used c.args.aim c.args.rels.now (search rules)

pub returns-then-not-asks_of_target : goal.returns-then-not-asks_of_target
returns-then-not-asks_of_target c = unasked_target c.args.stand.now c.args.leaf.now c.args.used c.args.aim c.args.rels.now (sym c.asks_of_target.ensures ∙ c.if-not-asks_of_target.true)

pub returns : goal.returns
returns c = asked_target c.args.stand.now c.args.leaf.now c.args.used c.args.aim c.args.rels.now c.push.new.self c.in_ok-all.all c.in_ok-targets.targets c.if-not-used.false c.in_ok-all.ensures c.in_ok-targets.ensures c.in_ok-push.ensures.ok
