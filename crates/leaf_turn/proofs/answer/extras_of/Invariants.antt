use Rattle.std.proofs.Common.{◌++◌, drop, map, List}
use Rattle.fd_prob.specs.declared.problem.Extra.{Extra}
use Rattle.tpl_ast.specs.declared.template.Atom.{Atom}
use Rattle.leaf_pose.specs.Posed.{AreShaped}
use Rattle.leaf_turn.specs.Internal.Asking.{AreExtrasOf, AreOfCases}
use Rattle.leaf_turn.proofs.answer.extras_of.Given as goal

abbrev pub invariant-loop-bias : goal.invariant-loop-bias
invariant-loop-bias l = record {
  extras : (leaf : List Atom) → AreShaped l.stand leaf l.posed.shapes l.posed.problem.cases → (more : List Extra)
      → AreExtrasOf l.stand leaf (map (λ b. b.items) (drop l.bias-index l.biases)) l.posed.problem more → AreExtrasOf l.stand leaf (map (λ b. b.items) l.biases) l.posed.problem (l.extras.items ++ more);
  places : AreOfCases l.posed.shapes l.extras.items;
}
