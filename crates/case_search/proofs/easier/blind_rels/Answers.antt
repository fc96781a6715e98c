use Rattle.std.proofs.Common.{◌≡◌, Vec, Global, [], ◌∷◌, ◌++◌, sym, ap, ◌∙◌, subst}
use Rattle.fd_prob.specs.declared.relation.Rel.{Rel}
use Rattle.case_search.specs.Internal.Easier.{AreBlind}
use Rattle.case_search.proofs.Leaving.{none_blind, one_blind}
use Rattle.case_search.proofs.easier.blind_rels.Goals.{then-not-mentions+in_ok-copy+in_ok-push, else-not-mentions}
use Rattle.case_search.proofs.easier.blind_rels.Goals as goal

pub loop-rel-init : goal.loop-rel-init
loop-rel-init c = subst (AreBlind c.args.slot c.args.rels.now) (sym c.new-made.ensures.items) (none_blind c.args.slot c.args.rels.now)

pub loop-rel-preserved : goal.loop-rel-preserved
loop-rel-preserved c = elim c.if-not-mentions.branch [
  | then-not-mentions+in_ok-copy+in_ok-push w ↦
      let items : c.if-not-mentions.made.items ≡ c.loop-rel.made.items ++ c.rel-item.result ∷ [] =
      ap (λ (v : Vec Rel Global). v.items) w.made-is ∙ w.in_ok-push.ensures.items ∙ ap (λ (r : Rel). c.loop-rel.made.items ++ r ∷ []) w.in_ok-copy.ensures in
      subst (AreBlind c.args.slot c.args.rels.now) (sym items)
      (one_blind c.args.slot c.args.rels.now c.loop-rel.made.items c.loop-rel.rel-index c.rel-item.result c.loop-rel-test.true c.rel-item.is (sym c.mentions.ensures ∙ w.if-not-mentions.true) c.loop-rel.invariant)
  | else-not-mentions w ↦ subst (λ (v : Vec Rel Global). AreBlind c.args.slot c.args.rels.now v.items) (sym w.made-is) c.loop-rel.invariant
]

pub returns : goal.returns
returns c = c.loop-rel.invariant
