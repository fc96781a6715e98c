use Rattle.std.proofs.Common.{◌≡◌, ℕ, ◌+◌, ◌-◌, ◌≤◌, List, map, ap, sym, ◌∙◌, arith}
use Rattle.fd_prob.specs.declared.problem.Case.{Case}
use Rattle.std.specs.List.{filter_map}
use Rattle.fd_prob.specs.Spaces.{allowed_case, numbers_from, operation_space, saturated, sum_of}
use Rattle.fd_prob.proofs.Numbers.{done, is_added, skipped}
use Rattle.fd_prob.proofs.spaces.operations_space.Goals.{in-Some, in_default}
use Rattle.fd_prob.proofs.spaces.operations_space.Goals as goal

pub loop-op-preserved : goal.loop-op-preserved
loop-op-preserved c = elim c.match-allowed_case.branch [
  | in-Some w ↦
      let added : c.match-allowed_case.sum ≡ saturated (c.loop-op.sum + saturated (operation_space w.in-Some.case.now)) = w.sum-is ∙ w.saturating_add-sum.ensures ∙ ap (λ (n : ℕ). saturated (c.loop-op.sum + n)) w.operation_space.ensures in
      record {
        value = is_added (allowed_case c.args.cases.now) operation_space c.loop-op.op c.loop-op.sum c.match-allowed_case.sum w.in-Some.case.now c.loop-op-test.true (sym w.in-Some.ensures.allowed) added ∙ c.loop-op.invariant.value;
        below = omega (arith, added);
      }
  | in_default w ↦
      record {
        value = ap (λ (n : ℕ). saturated (n + sum_of (map operation_space (filter_map (allowed_case c.args.cases.now) (numbers_from (c.loop-op.op + 1) (58 - (c.loop-op.op + 1))))))) w.sum-is ∙ sym (ap (λ (cs : List Case). saturated (c.loop-op.sum + sum_of (map operation_space cs))) (skipped (allowed_case c.args.cases.now) c.loop-op.op c.loop-op-test.true (sym w.in_default.ensures.allowed))) ∙ c.loop-op.invariant.value;
        below = omega (arith, w.sum-is, c.loop-op.invariant.below);
      }
]

pub returns : goal.returns
returns c =
    let end : 58 ≤ c.loop-op.op = omega (arith, c.loop-op-test.false) in
    let rest : saturated (c.loop-op.sum + 0) ≡ c.loop-op.sum = omega (arith, c.loop-op.invariant.below) in
    sym rest ∙ sym (ap (λ (cs : List Case). saturated (c.loop-op.sum + sum_of (map operation_space cs))) (done (allowed_case c.args.cases.now) c.loop-op.op end)) ∙ c.loop-op.invariant.value
