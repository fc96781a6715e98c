use Rattle.std.proofs.Common.{◌≡◌, true, sym, ◌∙◌, arith}
use Rattle.std.proofs.lemmas.Bool.{false≢true}
use Rattle.std.proofs.lemmas.List.Elements.{AllWithin-more, at_read}
use Rattle.fd_prob.specs.declared.relation.Rel.{Rel}
use Rattle.fd_prob.specs.Mentions.{mentions}
use Rattle.case_search.specs.Internal.Free.{IsSettled}
use Rattle.case_search.proofs.free.is_free.Goals.{else-mentions-via-then-mentions+else-not-is_settled, else-mentions-via-else-mentions}
use Rattle.case_search.proofs.free.is_free.Goals as goal

pub loop-rel-preserved : goal.loop-rel-preserved
loop-rel-preserved c =
    let P : Rel → Type 0 = λ r. mentions r c.args.slot ≡ true → IsSettled c.args.doms.now c.args.slot r in
    let here : P c.rel-item.result = elim c.else-mentions.branch [
      | else-mentions-via-then-mentions+else-not-is_settled w ↦ λ looks. w.is_settled.ensures w.if-not-is_settled.false
      | else-mentions-via-else-mentions w ↦ λ looks. absurd (false≢true (sym w.if-mentions.false ∙ c.mentions.ensures ∙ looks))
    ] in
    AllWithin-more P c.args.rels.now 0 c.loop-rel.rel-index c.loop-rel.invariant (at_read c.args.rels.now P c.loop-rel.rel-index c.rel-item.result c.loop-rel-test.true c.rel-item.is here)

pub returns : goal.returns
returns c = λ _ k d lt. c.loop-rel.invariant k d (omega arith) (omega (arith, lt, c.loop-rel-test.false))
