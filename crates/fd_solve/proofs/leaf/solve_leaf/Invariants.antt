use Rattle.std.proofs.Common.{◌≡◌, [], drop, length}
use Rattle.fd_solve.specs.Answers.{AreTaken, Kept}
use Rattle.fd_solve.specs.Internal.Taking.{IsTold, kept_of}
use Rattle.fd_solve.proofs.leaf.solve_leaf.Given as goal

abbrev pub invariant-loop-bias : goal.invariant-loop-bias
invariant-loop-bias l = record {
  count : length l.taken.marks.items ≡ l.bias-index;
  told : IsTold l.p l.biases l.nodes l.taken;
  rest : (after : Kept) → AreTaken l.nodes l.bias-index (drop l.bias-index l.biases) (kept_of l.p l.biases l.taken) after → AreTaken l.nodes 0 l.biases (record { problem = l.p; dropped = [] }) after;
}
