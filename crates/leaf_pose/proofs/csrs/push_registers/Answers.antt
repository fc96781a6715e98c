use Rattle.rv_csr.specs.Table.{registers}
use Rattle.leaf_pose.proofs.Granting.{next_register, no_registers, register_at}
use Rattle.leaf_pose.proofs.csrs.push_registers.Goals as goal

pub push_usages-requires-clause-register : goal.push_usages-requires-clause-register
push_usages-requires-clause-register c = register_at registers c.loop-register.register-index _ c.loop-register-test.true

pub loop-register-preserved : goal.loop-register-preserved
loop-register-preserved c = λ end h. c.loop-register.invariant end (next_register c.args.stand.now c.args.leaf.now c.args.op registers c.loop-register.register-index _ _ c.loop-register.shaped c.push_usages.new.shaped end c.loop-register-test.true c.usages_of-usages.ensures c.in_ok-push_usages.ensures h)

pub returns : goal.returns
returns c = c.loop-register.invariant c.loop-register.shaped (no_registers c.args.stand.now c.args.leaf.now c.args.op registers c.loop-register.register-index c.loop-register.shaped c.loop-register-test.false)
