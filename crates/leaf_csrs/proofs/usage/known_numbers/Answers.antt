use Rattle.std.proofs.Common.{arith}
use Rattle.leaf_csrs.proofs.Counted.{known_all, known_next}
use Rattle.leaf_csrs.proofs.usage.known_numbers.Goals as goal

pub loop-number-preserved : goal.loop-number-preserved
loop-number-preserved c = known_next c.args.registers.now c.loop-number.number c.is_some.result c.loop-number.pairs.items c.push_one.new.pairs.items (omega arith) c.is_some.ensures c.loop-number.invariant c.in_ok-push_one.ensures

pub returns : goal.returns
returns c = known_all c.args.registers.now c.loop-number.number c.loop-number.pairs.items (omega arith) c.loop-number.invariant
