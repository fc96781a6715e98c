use Rattle.foot_map.specs.Races.{is_blocked}
use Rattle.data_bytes.proofs.Framing.{barred_are}
use Rattle.data_bytes.proofs.barred.barred_in.Goals as goal

pub returns : goal.returns
returns c =
    barred_are (is_blocked c.args.feet.now c.args.hart c.args.role) c.args.frame c.in_ok-bytes.bytes c.in_ok-allowed.field-0 c.in_ok-free.free c.in_ok-minus.field-0
    c.requires c.ranges.frame.fits c.in_ok-bytes.ensures c.in_ok-allowed.ensures c.in_ok-free.ensures c.in_ok-minus.ensures
