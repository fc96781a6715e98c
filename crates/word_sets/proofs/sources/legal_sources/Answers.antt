use Rattle.std.proofs.Common.{Bool, sym, ◌∙◌, subst}
use Rattle.std.specs.Prelude.{◌↔◌, IsTrue}
use Rattle.dom_set.specs.Elements.{is_in}
use Rattle.word_sets.specs.Internal.Sources.{IsLegalSource}
use Rattle.word_sets.proofs.Origins.{legal_alone, legal_or_zero}
use Rattle.word_sets.proofs.sources.legal_sources.Goals as goal
use Rattle.word_sets.proofs.sources.legal_sources.Goals.{then-zero+in_ok-push, else-zero}

pub returns : goal.returns
returns c v lv = elim c.if-zero.branch [
  | then-zero+in_ok-push w ↦
      let all = rw w.sources-is at c.deref.ensures.value in
      subst (λ (zero : Bool). IsTrue (is_in c.in_ok-set.set v) ↔ IsLegalSource c.args.csr c.args.how c.args.other zero v) (sym w.if-zero.true)
      (legal_or_zero c.set_laws.ensures.pass c.set_laws.ensures.tests c.args.csr c.args.how c.args.other c.in_ok-set.set c.legal_patterns.result.now c.in_ok-sources.sources.items c.deref.result.now c.in_ok-set.ensures (all ∙ w.in_ok-push.ensures.items) c.legal_patterns.ensures c.in_ok-sources.ensures v lv)
  | else-zero w ↦
      let all = rw w.sources-is at c.deref.ensures.value in
      subst (λ (zero : Bool). IsTrue (is_in c.in_ok-set.set v) ↔ IsLegalSource c.args.csr c.args.how c.args.other zero v) (sym w.if-zero.false)
      (legal_alone c.set_laws.ensures.pass c.set_laws.ensures.tests c.args.csr c.args.how c.args.other c.in_ok-set.set c.legal_patterns.result.now c.in_ok-sources.sources.items (rw all at c.in_ok-set.ensures) c.legal_patterns.ensures c.in_ok-sources.ensures v lv)
]
