use Rattle.std.proofs.Common.{false, true, ◌++◌}
use Rattle.rv_csr.specs.Table.{registers}
use Rattle.leaf_stand.specs.Posed.{stand_cases, stand_ways}
use Rattle.leaf_pose.specs.declared.csrs.Access.TheVariants.{Refused}
use Rattle.leaf_pose.specs.Internal.Csrs.{access_case, csr_cases, register_cases}
use Rattle.leaf_pose.proofs.Granting.{accesses_back, accesses_there}
use Rattle.leaf_pose.proofs.Steps.{same_adds, then_adds}
use Rattle.leaf_pose.proofs.csrs.push_csrs.Goals as goal

pub returns : goal.returns
returns c =
    let s = c.args.stand.now in
    let leaf = c.args.leaf.now in
    let op = c.args.op in
    let of = c.domains_are_of_operations.ensures in
    same_adds s leaf c.args.shaped.now c.push_registers.new.shaped (csr_cases s leaf op) (stand_cases s leaf op (stand_ways s op))
    (accesses_there of c.granted_are_usages.ensures.there c.denied_are_refused.ensures.there s leaf op c.requires.csr)
    (accesses_back of c.granted_are_usages.ensures.back c.denied_are_refused.ensures.back s leaf op c.requires.csr)
    (then_adds s leaf c.args.shaped.now c.push_access.new.shaped c.push_registers.new.shaped (access_case s leaf op (Refused false)) (access_case s leaf op (Refused true) ++ register_cases s leaf op registers) c.in_ok-push_access.ensures
    (then_adds s leaf c.push_access.new.shaped c.push_access-2.new.shaped c.push_registers.new.shaped (access_case s leaf op (Refused true)) (register_cases s leaf op registers) c.in_ok-push_access-2.ensures c.in_ok-push_registers.ensures))
