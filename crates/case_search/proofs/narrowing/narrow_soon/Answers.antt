use Rattle.std.proofs.Common.{◌≡◌, ◌∙◌, List, ℕ, length, refl, sym, ap, subst}
use Rattle.rv_isa.specs.declared.operation.Op.{Op}
use Rattle.rv_isa.specs.Numbers.{op_numbered}
use Rattle.fd_narrow.specs.Narrowing.{Narrows}
use Rattle.fd_prob.specs.declared.problem.Case.{Case}
use Rattle.fd_prob.specs.declared.relation.Rel.{Rel}
use Rattle.case_search.proofs.Equivalence.{narrow_equivalent}
use Rattle.case_search.proofs.narrowing.narrow_soon.Goals as goal

pub returns : goal.returns
returns c =
    let case : Case = c.args.case in
    let made : Case = record { op = case.op; doms = c.from_vec.result; rels = case.rels } in
    let sets : made.doms ≡ c.in_ok-narrow.narrow = c.from_vec.ensures ∙ c.into_sets.ensures.sets in
    let one : Narrows c.operation.result c.as_slice-rels.result.now case.doms c.in_ok-narrow.narrow = subst (λ (ds : List (List ℕ)). Narrows c.operation.result c.as_slice-rels.result.now ds c.in_ok-narrow.narrow) c.in_ok-doms.ensures c.in_ok-narrow.ensures in
    let two : Narrows (op_numbered case.op) c.as_slice-rels.result.now case.doms c.in_ok-narrow.narrow = subst (λ (op : Op). Narrows op c.as_slice-rels.result.now case.doms c.in_ok-narrow.narrow) c.operation.ensures one in
    let three : Narrows (op_numbered case.op) case.rels case.doms c.in_ok-narrow.narrow = subst (λ (rels : List Rel). Narrows (op_numbered case.op) rels case.doms c.in_ok-narrow.narrow) c.as_slice-rels.ensures two in
    narrow_equivalent case made c.requires refl refl (ap length c.from_vec.ensures ∙ c.into_sets.ensures.length)
    (subst (Narrows (op_numbered case.op) case.rels case.doms) (sym sets) three)
