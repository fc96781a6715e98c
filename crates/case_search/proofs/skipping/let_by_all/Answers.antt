use Rattle.std.proofs.Common.{◌≡◌, List, ◌∙◌, sym, ap, inl, inr, arith}
use Rattle.std.proofs.lemmas.Bool.{cases_lt}
use Rattle.std.proofs.lemmas.List.{drop_all}
use Rattle.fd_prob.specs.Order.{rank}
use Rattle.fd_prob.specs.declared.relation.Rel.{Rel}
use Rattle.case_search.specs.Internal.Skipping.{all_let, lets}
use Rattle.case_search.proofs.Skips.{fails_at, rest_passes}
use Rattle.case_search.proofs.skipping.let_by_all.Goals as goal

pub loop-rel-preserved : goal.loop-rel-preserved
loop-rel-preserved c = record {
  from = omega (arith, c.loop-rel.invariant.from, c.let_by-next.ensures.from);
  below = c.let_by-next.ensures.bound;
  passed = λ w small from less. elim (cases_lt (rank c.args.pivot w) c.loop-rel.next) [
    | inl before ↦ c.loop-rel.invariant.passed w small from before
    | inr behind ↦ fails_at (λ (r : Rel). lets r c.args.slot w) c.args.rels.now c.loop-rel.rel-index c.rel-item.result c.loop-rel-test.true c.rel-item.is (c.let_by-next.ensures.passed w small behind less)
  ];
  there = λ w small at end.
      let old : c.loop-rel.next ≡ c.args.k = omega (arith, c.loop-rel.invariant.from, c.let_by-next.ensures.from, end) in
      rest_passes (λ (r : Rel). lets r c.args.slot w) c.args.rels.now c.loop-rel.rel-index c.rel-item.result c.loop-rel-test.true c.rel-item.is (c.let_by-next.ensures.there w small (at ∙ sym old) (end ∙ sym old))
      ∙ c.loop-rel.invariant.there w small at old;
}

pub returns-clause-there : goal.returns-clause-there
returns-clause-there c w small at end = sym (c.loop-rel.invariant.there w small at end) ∙ ap (λ (rs : List Rel). all_let rs c.args.slot w) (drop_all c.loop-rel.rel-index c.args.rels.now c.loop-rel-test.false)
