use Rattle.std.proofs.Common.{◌≡◌, take}
use Rattle.leaf_stand.specs.Shared.{traces_of}
use Rattle.leaf_turn.proofs.stand.others_of.Given as goal

abbrev pub invariant-loop-k : goal.invariant-loop-k
invariant-loop-k l = traces_of l.others.items ≡ take l.k l.part.now.traces
