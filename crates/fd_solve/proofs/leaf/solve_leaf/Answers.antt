use Rattle.std.proofs.Common.{ℕ, Bool, List, [], sym, subst, arith}
use Rattle.fd_prob.specs.declared.problem.Problem.{Problem}
use Rattle.fd_solve.specs.Answers.{AreTaken}
use Rattle.fd_solve.specs.Internal.Marks.{with_marked}
use Rattle.fd_solve.specs.Internal.Taking.{IsTakenBy, kept_of}
use Rattle.fd_solve.proofs.Biases.{next_bias, none_left}
use Rattle.fd_solve.proofs.leaf.solve_leaf.Goals as goal

pub loop-bias-preserved : goal.loop-bias-preserved
loop-bias-preserved c =
    let p = c.args.p.now in
    let biases = c.args.biases.now in
    let i : ℕ = c.loop-bias.bias-index in
    let before = kept_of p biases c.loop-bias.taken in
    let mid = kept_of p biases c.take.new.self in
    let taken : IsTakenBy c.args.nodes i c.bias-item.result before mid = subst (λ (n : ℕ). IsTakenBy c.args.nodes n c.bias-item.result before mid) c.loop-bias.invariant.count c.in_ok-take.ensures.taken in
    record {
      count = omega (arith, c.in_ok-take.ensures.one, c.loop-bias.invariant.count);
      told = c.in_ok-take.ensures.told;
      rest = λ after rest. c.loop-bias.invariant.rest after (next_bias c.args.nodes i biases c.bias-item.result c.loop-bias-test.true c.bias-item.is before mid taken after rest);
    }

pub returns : goal.returns
returns c =
    let p = c.args.p.now in
    let biases = c.args.biases.now in
    let taken = c.loop-bias.taken in
    let whole : Problem = with_marked taken.marks.items biases p in
    let P : List (ℕ × Bool) → Type 0 = λ d. AreTaken c.args.nodes 0 biases (record { problem = p; dropped = [] }) (record { problem = whole; dropped = d }) in
    (whole, subst P (sym c.in_ok-solved.ensures.dropped) (c.loop-bias.invariant.rest (kept_of p biases taken) (none_left c.args.nodes c.loop-bias.bias-index biases c.loop-bias-test.false (kept_of p biases taken))), c.in_ok-solved.ensures.solved)
