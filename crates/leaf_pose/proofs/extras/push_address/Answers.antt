use Rattle.std.proofs.Common.{sym, ◌∙◌}
use Rattle.leaf_pose.proofs.Adding.{said_rows}
use Rattle.leaf_pose.proofs.extras.push_address.Goals as goal

pub returns : goal.returns
returns c = said_rows c.args.stand.now c.args.bias.now c.args.rels.now c.push.new.self c.in_ok-rows.rows c.in_ok-rows.ensures (sym c.speak_of.ensures ∙ c.if-not-speak_of.false) c.in_ok-push.ensures.ok
