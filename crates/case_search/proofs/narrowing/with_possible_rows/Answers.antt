use Rattle.std.proofs.Common.{◌∙◌, ℕ, List, refl, sym, ap, subst}
use Rattle.std.specs.List.{list_all}
use Rattle.fd_narrow.specs.Narrowing.{IsInside}
use Rattle.fd_prob.specs.declared.problem.Case.{Case}
use Rattle.fd_prob.specs.Relations.{holds}
use Rattle.case_search.proofs.Equivalence.{possible_equivalent}
use Rattle.case_search.proofs.narrowing.with_possible_rows.Goals as goal

pub returns : goal.returns
returns c =
    let case : Case = c.args.case.now in
    possible_equivalent case (record { op = case.op; doms = c.from_vec.result; rels = c.from_vec-2.result }) c.requires refl (c.from_vec.ensures ∙ c.into_sets.ensures.sets ∙ c.in_ok-doms.ensures)
    (λ op x inside. ap (list_all (holds op x)) c.from_vec-2.ensures
    ∙ c.in_ok-rels.ensures op x (subst (λ (ds : List (List ℕ)). IsInside ds x) (sym c.in_ok-doms.ensures) inside)
    ∙ ap (list_all (holds op x)) c.as_slice.ensures)
