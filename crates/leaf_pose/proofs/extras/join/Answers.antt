use Rattle.leaf_pose.proofs.Joining.{addresses_joined}
use Rattle.leaf_pose.proofs.extras.join.Goals as goal

pub returns-then-differ_in_addresses : goal.returns-then-differ_in_addresses
returns-then-differ_in_addresses c = addresses_joined c.args.row.now c.args.other.now c.in_ok-row.field-0 (c.differ_in_addresses.ensures.root c.if-differ_in_addresses.true) (c.differ_in_addresses.ensures.word c.if-differ_in_addresses.true) (c.differ_in_addresses.ensures.leaf c.if-differ_in_addresses.true) c.in_ok-row.ensures
