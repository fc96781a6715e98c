use Rattle.std.proofs.Common.{length, ◌/◌}
use Rattle.dom_set.specs.Elements.{is_in}
use Rattle.leaf_pose.proofs.AddressRows.{halves}
use Rattle.leaf_pose.proofs.extras.+rows_of.Goals as goal

pub returns : goal.returns
returns t c x hx = halves (is_in c.args.wanted.now) x c.args.ways.now (length c.args.ways.now / 2) c.in_ok-first.first.items c.in_ok-last.last.items c.put_rows.new.rows.items (c.in_ok-put_rows.ensures x hx) (c.in_ok-first.ensures x hx) (c.in_ok-last.ensures x hx)
