use Rattle.std.proofs.Common.{ℕ, List, ◌<◌, ◌^◌, subst, sym}
use Rattle.std.specs.Prelude.{IsTrue}
use Rattle.dom_set.specs.Elements.{is_within}
use Rattle.set_sums.proofs.Members.{element}
use Rattle.set_sums.proofs.ranges.merged_spans.Goals as goal

pub returns : goal.returns
returns c = λ v held.
    c.in_ok-merged.ensures.covered v
    (c.in_ok-words.ensures.all v (element (λ n. n < 2 ^ 32) c.args.set.now v c.element_laws.ensures.words held)
    (subst (λ (spans : List (ℕ × ℕ)). IsTrue (is_within spans v)) (sym c.deref.ensures.value) (c.in_ok-spans.ensures.covered v held)))
