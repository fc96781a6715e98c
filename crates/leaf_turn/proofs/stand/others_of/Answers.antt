use Rattle.std.proofs.Common.{arith}
use Rattle.leaf_turn.proofs.Grounding.{next_trace}
use Rattle.leaf_turn.proofs.stand.others_of.Goals as goal

pub loop-k-preserved : goal.loop-k-preserved
loop-k-preserved c = next_trace _ _ c.records.result _ c.loop-k.k c.loop-k.invariant c.in_ok-push.ensures.items c.records.ensures (omega (arith, c.is_test.ensures.traces, c.requires, c.loop-k-test.true))
