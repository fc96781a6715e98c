use Rattle.std.proofs.Common.{◌≡◌, ℕ, true, List, length-set, sym, ◌∙◌, subst, arith}
use Rattle.dom_set.specs.Elements.{is_in}
use Rattle.case_search.proofs.Cuts.{next_inside}
use Rattle.fd_prob.proofs.Places.{place_below}
use Rattle.case_search.proofs.Ranks.{first_is_in}
use Rattle.case_search.proofs.search.lowest.Goals as goal

pub loop-i-preserved : goal.loop-i-preserved
loop-i-preserved c =
    let member = subst (λ (xs : List ℕ). is_in xs c.in_ok-values.field-0 ≡ true) c.domain.ensures (first_is_in c.domain.result.now 0 c.in_ok-values.field-0 (sym c.in_ok-values.ensures.first)) in
    record {
      long = length-set c.loop-i.values c.loop-i.i c.in_ok-values.field-0 ∙ c.loop-i.invariant.long;
      inside = next_inside c.args.doms.now c.loop-i.values c.loop-i.i c.slot_at.result c.in_ok-values.field-0 c.loop-i.invariant.long c.slot_at.ensures c.loop-i.invariant.inside member;
    }

pub returns : goal.returns
returns c = (record { length = c.loop-i.invariant.long; words = c.words.ensures }, λ s. c.loop-i.invariant.inside s (omega (arith, place_below s, c.loop-i-test.false)))
