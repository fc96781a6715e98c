use Rattle.std.proofs.Common.{◌≡◌, ◌≤◌, ◌∙◌, List, IsTrue, Bool, true, false, count_by, refl, sym, ap, subst, arith}
use Rattle.std.specs.List.{list_any}
use Rattle.fd_prob.specs.declared.relation.Rel.{Rel}
use Rattle.fd_prob.specs.declared.relation.Rel.TheVariants.{Same}
use Rattle.fd_prob.specs.declared.slot.Slot.TheVariants as slots
use Rattle.case_search.specs.Internal.Stronger.{AreAlike, is_elsewhere, is_target, lacks_value}
use Rattle.case_search.proofs.JoinedTargets.{same_count}
use Rattle.case_search.proofs.Strengthening.{no_more_lacks, with_values}
use Rattle.fd_prob.specs.Relations.{is_same}
use Rattle.fd_prob.specs.declared.problem.Assignment.{Assignment}
use Rattle.fd_narrow.specs.Narrowing.{AllHold}
use Rattle.rv_isa.specs.declared.operation.Op.{Op}
use Rattle.case_search.proofs.stronger.stronger.Goals.{then-may_add_value+in_ok-push, else-may_add_value}
use Rattle.case_search.proofs.stronger.stronger.Goals as goal

none_lacks : (b : Bool) → (b ≡ true → ⊥) → b ≡ false
none_lacks true none = absurd (none refl)
none_lacks false none = refl

pub returns-clause-alike : goal.returns-clause-alike
returns-clause-alike c = record {
  op = refl;
  doms = c.from_vec.ensures ∙ c.in_ok-doms.ensures ∙ c.as_slice-3.ensures;
  rels = alike;
}
  where
    rels : List Rel
    rels = c.args.case.now.rels

    before : List Rel
    before = c.in_ok-rels.rels

    same : AreAlike rels before
    same = subst (λ (rs : List Rel). AreAlike rs before) c.as_slice.ensures c.in_ok-rels.ensures.alike

    alike : AreAlike rels c.if-may_add_value.rels
    alike = elim c.if-may_add_value.branch [
      | then-may_add_value+in_ok-push w ↦
          let says = subst (λ (rs : List Rel). (op : Op) (x : Assignment) → AllHold op rs x → IsTrue (is_same x slots.A slots.B)) c.as_slice-2.ensures (w.if-may_add_value.ensures.same refl) in
          with_values rels before c.if-may_add_value.rels same says (w.rels-is ∙ w.in_ok-push.ensures.ok)
      | else-may_add_value w ↦ subst (AreAlike rels) (sym w.rels-is) same
    ]

pub returns-clause-values : goal.returns-clause-values
returns-clause-values c = elim c.if-may_add_value.branch [
  | then-may_add_value+in_ok-push w ↦ no_more_lacks c.in_ok-rels.rels c.if-may_add_value.rels (w.rels-is ∙ w.in_ok-push.ensures.ok)
  | else-may_add_value w ↦ ap lacks_value w.rels-is ∙ none_lacks (lacks_value c.in_ok-rels.rels) (λ lacks. absurd (cc (w.if-may_add_value.false, c.may_add_value.ensures.lacking (ap lacks_value c.as_slice-2.ensures ∙ lacks))))
]

pub returns-clause-targets : goal.returns-clause-targets
returns-clause-targets c pc none = elim c.if-may_add_value.branch [
  | then-may_add_value+in_ok-push w ↦
      let same : count_by is_target c.if-may_add_value.rels ≡ count_by is_target c.in_ok-rels.rels = same_count c.in_ok-rels.rels c.if-may_add_value.rels (Same slots.A slots.B) (w.rels-is ∙ w.in_ok-push.ensures.ok) refl in
      omega (arith, same, few)
  | else-may_add_value w ↦ subst (λ (rs : List Rel). count_by is_target rs ≤ 1) (sym w.rels-is) few
]
  where
    few : count_by is_target c.in_ok-rels.rels ≤ 1
    few = c.in_ok-rels.ensures.joined pc (ap (list_any (is_elsewhere pc)) c.as_slice.ensures ∙ none)
