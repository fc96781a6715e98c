use Rattle.leaf_pose.proofs.Accesses.{cut_domain, uncut_domain}
use Rattle.leaf_pose.proofs.csrs.access_domain.Goals as goal

pub returns-in_ok-and-in-Some : goal.returns-in_ok-and-in-Some
returns-in_ok-and-in-Some c =
    cut_domain c.args.stand.now c.args.leaf.now c.args.op c.args.access c.end.result c.args.slot c.in_ok-open.open c.in_ok-cut.field-0 c.in-Some.cut c.in_ok-and-in-Some.field-0 c.end.ensures c.in-Some.is c.in_ok-open.ensures c.in_ok-cut.ensures c.in_ok-and-in-Some.ensures

pub returns-in-None : goal.returns-in-None
returns-in-None c =
    uncut_domain c.args.stand.now c.args.leaf.now c.args.op c.args.access c.end.result c.args.slot c.in_ok-open.open c.in_ok-cut.field-0 c.end.ensures c.in-None.is c.in_ok-open.ensures c.in_ok-cut.ensures
