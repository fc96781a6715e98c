use Rattle.std.proofs.Common.{◌≡◌, ◌≤◌, true, false, List, find, ap, sym, ◌∙◌, arith}
use Rattle.rv_isa.specs.declared.operation.Op.{Op}
use Rattle.rv_isa.specs.Fields.{has_address}
use Rattle.rv_isa.specs.Table.{row_of}
use Rattle.fd_prob.specs.declared.problem.Case.{Case}
use Rattle.fd_prob.specs.Spaces.{allowed_case, is_access}
use Rattle.fd_prob.proofs.Numbers.{done, is_found, is_passed, skipped}
use Rattle.fd_prob.proofs.spaces.first_access.Goals.{in-Some+else-has_data_access, in_default}
use Rattle.fd_prob.proofs.spaces.first_access.Goals as goal

pub returns-then-has_data_access-clause-first : goal.returns-then-has_data_access-clause-first
returns-then-has_data_access-clause-first c =
    let is : is_access c.in-Some.case.now ≡ true = sym (c.has_data_access.ensures ∙ ap (λ (op : Op). has_address (row_of op)) c.operation.ensures) ∙ c.if-has_data_access.true in
    sym (is_found (allowed_case c.args.cases.now) is_access c.loop-op.op c.in-Some.case.now c.loop-op-test.true (sym c.in-Some.ensures.allowed) is) ∙ c.loop-op.invariant

pub loop-op-preserved : goal.loop-op-preserved
loop-op-preserved c = elim c.match-allowed_case.branch [
  | in-Some+else-has_data_access w ↦
      let is : is_access w.in-Some.case.now ≡ false = sym (w.has_data_access.ensures ∙ ap (λ (op : Op). has_address (row_of op)) w.operation.ensures) ∙ w.if-has_data_access.false in
      sym (is_passed (allowed_case c.args.cases.now) is_access c.loop-op.op w.in-Some.case.now c.loop-op-test.true (sym w.in-Some.ensures.allowed) is) ∙ c.loop-op.invariant
  | in_default w ↦ sym (ap (λ (cs : List Case). find is_access cs) (skipped (allowed_case c.args.cases.now) c.loop-op.op c.loop-op-test.true (sym w.in_default.ensures.allowed))) ∙ c.loop-op.invariant
]

pub returns-clause-first : goal.returns-clause-first
returns-clause-first c =
    let end : 58 ≤ c.loop-op.op = omega (arith, c.loop-op-test.false) in
    sym (ap (λ (cs : List Case). find is_access cs) (done (allowed_case c.args.cases.now) c.loop-op.op end)) ∙ c.loop-op.invariant
