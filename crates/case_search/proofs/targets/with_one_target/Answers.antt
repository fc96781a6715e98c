use Rattle.std.proofs.Common.{◌&&◌, ◌||◌, Bool, take, sym, ap, ◌∙◌}
use Rattle.std.specs.List.{list_all, list_any}
use Rattle.std.proofs.lemmas.List.{take_all}
use Rattle.std.proofs.lemmas.List.Folds.{list_all_more, list_any_more}
use Rattle.fd_prob.specs.declared.relation.Rel.{Rel}
use Rattle.fd_prob.specs.Relations.{holds}
use Rattle.case_search.specs.Internal.Stronger.{is_elsewhere}
use Rattle.case_search.proofs.JoinedTargets.{neither}
use Rattle.case_search.proofs.targets.with_one_target.Goals as goal

pub loop-rel-preserved : goal.loop-rel-preserved
loop-rel-preserved c =
    let rels = c.args.rels.now in
    let i = c.loop-rel.rel-index in
    record {
      holds = λ op x.
          c.in_ok-targets.ensures.holds op x
          ∙ ap (λ (p : Bool). p && holds op x c.rel-item.result) (c.loop-rel.invariant.holds op x)
          ∙ ap (λ (r : Rel). list_all (holds op x) (take i rels) && holds op x r) c.rel-item.is
          ∙ sym (list_all_more (holds op x) rels i c.rel-item.result c.loop-rel-test.true);
      gathered = λ pc none.
          let both = neither (list_any (is_elsewhere pc) (take i rels)) (is_elsewhere pc c.rel-item.result) (ap (λ (r : Rel). list_any (is_elsewhere pc) (take i rels) || is_elsewhere pc r) c.rel-item.is ∙ sym (list_any_more (is_elsewhere pc) rels i c.rel-item.result c.loop-rel-test.true) ∙ none) in
          c.in_ok-targets.ensures.gathered pc both.1 (c.loop-rel.invariant.gathered pc both.0);
    }

pub returns-clause-alike : goal.returns-clause-alike
returns-clause-alike c op x = c.in_ok-rels.ensures.holds op x ∙ c.loop-rel.invariant.holds op x ∙ ap (list_all (holds op x)) (take_all c.loop-rel.rel-index c.args.rels.now c.loop-rel-test.false)

pub returns-clause-joined : goal.returns-clause-joined
returns-clause-joined c pc none = c.in_ok-rels.ensures.few (c.loop-rel.invariant.gathered pc (ap (list_any (is_elsewhere pc)) (take_all c.loop-rel.rel-index c.args.rels.now c.loop-rel-test.false) ∙ none)).1
