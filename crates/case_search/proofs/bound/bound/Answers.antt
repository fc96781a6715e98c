use Rattle.std.proofs.Common.{ℕ, List, length-set, sym, ◌∙◌, arith}
use Rattle.fd_prob.proofs.Places.{place_below}
use Rattle.fd_prob.specs.Slots.{slot_number}
use Rattle.case_search.proofs.Bounds.{nearest, next_nearest}
use Rattle.case_search.proofs.bound.bound.Goals as goal

pub loop-i-preserved : goal.loop-i-preserved
loop-i-preserved c =
    let ps : List ℕ = c.args.pivots.now in
    let v : ℕ = c.in_ok-values.field-0 in
    let here = nearest ps c.args.case.now c.loop-i.i c.slot_at.result c.domain-domain.result.now v c.slot_at.ensures c.domain-domain.ensures c.element_laws.ensures.ascending c.element_laws.ensures.words (c.fits-pivots c.loop-i.i) (sym c.in_ok-values.ensures.first) in
    record {
      long = length-set c.loop-i.values c.loop-i.i v ∙ c.loop-i.invariant.long;
      bound = next_nearest ps c.args.case.now c.loop-i.values c.loop-i.i v (omega (arith, c.loop-i.invariant.long, c.loop-i-test.true)) c.loop-i.invariant.bound here;
    }

pub returns : goal.returns
returns c x made s = c.loop-i.invariant.bound (slot_number s) (omega (arith, place_below s, c.loop-i-test.false)) x made
