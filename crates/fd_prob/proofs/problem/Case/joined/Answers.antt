use Rattle.std.proofs.Common.{◌&&◌, Bool, take, refl, sym, ap, ◌∙◌}
use Rattle.std.specs.List.{list_all}
use Rattle.std.proofs.lemmas.List.{take_all}
use Rattle.std.proofs.lemmas.List.Folds.{list_all_more}
use Rattle.fd_prob.specs.declared.relation.Rel.{Rel}
use Rattle.fd_prob.specs.Relations.{holds}
use Rattle.fd_prob.proofs.problem.Case.joined.Goals as goal

pub loop-rel-preserved : goal.loop-rel-preserved
loop-rel-preserved c =
    let rels = c.as_slice-rel-items.result.now in
    let i = c.loop-rel.rel-index in (
      λ op x.
          c.in_ok-joined.ensures.holds op x
          ∙ ap (λ (p : Bool). p && holds op x c.rel-item.result) (c.loop-rel.invariant.0 op x)
          ∙ ap (λ (r : Rel). list_all (holds op x) (take i rels) && holds op x r) c.rel-item.is
          ∙ sym (list_all_more (holds op x) rels i c.rel-item.result c.loop-rel-test.true),
      c.in_ok-joined.ensures.none c.loop-rel.invariant.1,
    )

pub returns : goal.returns
returns c = record {
  op = refl;
  doms = c.from_vec.ensures ∙ c.in_ok-doms.ensures ∙ c.as_slice.ensures;
  rels = λ op x. c.in_ok-rels.ensures.holds op x ∙ c.loop-rel.invariant.0 op x ∙ ap (list_all (holds op x)) (take_all c.loop-rel.rel-index c.as_slice-rel-items.result.now c.loop-rel-test.false ∙ c.as_slice-rel-items.ensures);
  few = c.in_ok-rels.ensures.few c.loop-rel.invariant.1;
}
