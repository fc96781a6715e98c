use Rattle.std.proofs.Common.{◌≡◌, Bool, List, Vec, Global, [], ◌∷◌, ◌++◌, ◌&&◌, length, ap, refl, subst, sym, ◌∙◌}
use Rattle.std.specs.List.{list_all}
use Rattle.fd_prob.specs.declared.problem.Case.{Case}
use Rattle.fd_prob.specs.declared.relation.Rel.{Rel}
use Rattle.fd_prob.specs.declared.relation.Rel.TheVariants.{Rows}
use Rattle.fd_prob.specs.Extras.{cut_by_all, extended_case}
use Rattle.fd_prob.specs.Relations.{holds}
use Rattle.fd_narrow.specs.Narrowing.{IsInside}
use Rattle.case_search.specs.Equivalent.{IsEquivalent}
use Rattle.case_search.proofs.Extensions.{length_cuts}
use Rattle.case_search.proofs.MetRows.{stays_in, stays_out}
use Rattle.case_search.proofs.extended.extended_case.Goals.{then-stays+in_ok-push_met_rels, else-stays+in_ok-push}
use Rattle.case_search.proofs.extended.extended_case.Goals as goal

pub push_met_rels-requires : goal.push_met_rels-requires
push_met_rels-requires c =
    ap length (c.deref.ensures.value ∙ c.in_ok-cut_by_all.ensures)
    ∙ length_cuts c.as_slice.result.now c.into_vec-doms.result.items
    ∙ ap length c.into_vec-doms.ensures
    ∙ c.requires.domains

pub returns : goal.returns
returns c =
    let e = c.args.bias.now in
    let case : Case = c.args.case in
    let made : Case = record { op = case.op; doms = c.from_vec.result; rels = c.from_vec-2.result } in
    let cut : c.cut_by_all.new.doms.items ≡ cut_by_all e.cuts case.doms = c.in_ok-cut_by_all.ensures ∙ (λ i. cut_by_all (c.as_slice.ensures i) (c.into_vec-doms.ensures i)) in
    elim c.if-stays.branch [
      | then-stays+in_ok-push_met_rels w ↦
          subst (λ (b : Bool). IsEquivalent (extended_case e b case) made) (sym w.if-stays.true)
          (stays_in e case made c.requires refl (c.from_vec.ensures ∙ cut) (λ op x inside.
          ap (list_all (holds op x)) (c.from_vec-2.ensures ∙ ap (λ (v : Vec Rel Global). v.items) w.rels-is)
          ∙ w.in_ok-push_met_rels.ensures op x (subst (λ (ds : List (List Rattle.std.proofs.Common.ℕ)). IsInside ds x) (sym (w.deref.ensures.value ∙ cut)) inside)
          ∙ (λ i. list_all (holds op x) (c.into_vec-rels.ensures i) && list_all (holds op x) (w.as_slice-then-stays.ensures i))))
      | else-stays+in_ok-push w ↦
          subst (λ (b : Bool). IsEquivalent (extended_case e b case) made) (sym w.if-stays.false)
          (stays_out e case made c.requires refl (c.from_vec.ensures ∙ cut)
          (c.from_vec-2.ensures ∙ ap (λ (v : Vec Rel Global). v.items) w.rels-is ∙ w.in_ok-push.ensures.items ∙ (λ i. c.into_vec-rels.ensures i ++ Rows (w.new.ensures i) ∷ [])))
    ]
