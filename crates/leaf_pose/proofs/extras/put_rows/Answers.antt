use Rattle.std.proofs.Common.{arith, ◌∙◌}
use Rattle.leaf_pose.proofs.Joining.{all_put, none_left, one_put}
use Rattle.leaf_pose.proofs.extras.put_rows.Goals as goal

pub loop-row-preserved : goal.loop-row-preserved
loop-row-preserved c x hx = one_put x c.loop-row.rows.items c.put_row.new.rows.items c.loop-row.left.items c.pop.new.self.items c.in-Some.row (c.in_ok-put_row.ensures x hx) c.in-Some.ensures.items ∙ c.loop-row.invariant x hx

pub returns : goal.returns
returns c x hx = all_put x c.loop-row.rows.items c.loop-row.left.items _ (none_left c.loop-row.left.items (omega (arith, c.loop-row.left.ok, c.in_default.ensures.cases.0))) (c.loop-row.invariant x hx)
