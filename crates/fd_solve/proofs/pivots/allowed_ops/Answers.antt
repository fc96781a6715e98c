use Rattle.std.proofs.Common.{sym, ap, ◌∙◌, List, ℕ, Some, None, Option, Vec, Global, append-nil, option_map}
use Rattle.fd_prob.specs.declared.problem.Case.{Case}
use Rattle.fd_prob.specs.Spaces.{allowed_case}
use Rattle.fd_solve.proofs.Allowed.{none_yet, one_more}
use Rattle.fd_solve.proofs.pivots.allowed_ops.Goals.{in-Some+in_ok-push, in_default}
use Rattle.fd_solve.proofs.pivots.allowed_ops.Goals as goal

pub loop-op-init : goal.loop-op-init
loop-op-init c = c.new-ops.ensures.items ∙ none_yet c.args.p.now.cases

pub loop-op-preserved : goal.loop-op-preserved
loop-op-preserved c =
    let here = ap (λ (cs : List Case). allowed_case cs c.loop-op.op) c.as_slice.ensures in
    elim c.match-allowed_case.branch [
      | in-Some+in_ok-push w ↦ one_more c.args.p.now.cases c.loop-op.op (Some w.in-Some.case.now.op) c.loop-op.ops.items c.match-allowed_case.ops.items c.loop-op.invariant (ap (λ (o : Option Case). option_map (λ (k : Case). k.op) o) (w.in-Some.ensures.allowed ∙ here)) (ap (λ (v : Vec ℕ Global). v.items) w.ops-is ∙ w.in_ok-push.ensures.items)
      | in_default w ↦ one_more c.args.p.now.cases c.loop-op.op None c.loop-op.ops.items c.match-allowed_case.ops.items c.loop-op.invariant (ap (λ (o : Option Case). option_map (λ (k : Case). k.op) o) (w.in_default.ensures.allowed ∙ here)) (ap (λ (v : Vec ℕ Global). v.items) w.ops-is ∙ sym (append-nil c.loop-op.ops.items))
    ]
