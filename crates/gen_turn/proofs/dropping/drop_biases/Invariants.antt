use Rattle.gen_turn.specs.Turns.{listed_as}
use Rattle.gen_turn.proofs.Drops.{IsListing}
use Rattle.gen_turn.proofs.dropping.drop_biases.Given as goal

abbrev pub invariant-loop-bias : goal.invariant-loop-bias
invariant-loop-bias l = IsListing (listed_as l.hart l.step l.wishes) l.dropped l.bias-index l.fn.part l.part
