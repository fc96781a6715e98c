use Rattle.std.proofs.Common.{drop}
use Rattle.rv_csr.specs.Table.{registers}
use Rattle.leaf_pose.specs.declared.shaped.Shaped.{Shaped}
use Rattle.leaf_pose.specs.Internal.Csrs.{register_cases}
use Rattle.leaf_pose.specs.Posed.{Adds}
use Rattle.leaf_pose.proofs.csrs.push_registers.Given as goal

abbrev pub invariant-loop-register : goal.invariant-loop-register
invariant-loop-register l = (end : Shaped) → Adds l.stand l.leaf l.shaped end (register_cases l.stand l.leaf l.op (drop l.register-index registers)) → Adds l.stand l.leaf l.fn.shaped end (register_cases l.stand l.leaf l.op registers)
