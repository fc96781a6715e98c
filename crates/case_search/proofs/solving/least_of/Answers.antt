use Rattle.std.proofs.Common.{◌≡◌, ◌∙◌, true, List, ℕ, sym, ap, subst}
use Rattle.dom_set.specs.Elements.{is_in}
use Rattle.fd_narrow.specs.Narrowing.{domain_in}
use Rattle.fd_prob.specs.declared.slot.Slot.TheVariants as slots
use Rattle.case_search.proofs.Inside.{domain_is}
use Rattle.case_search.proofs.Made.{least_made}
use Rattle.case_search.proofs.solving.least_of.Goals as goal

pub with_value-requires-clause-element : goal.with_value-requires-clause-element
with_value-requires-clause-element c =
    let same : c.domain.result.now ≡ domain_in c.in_ok-doms.doms slots.Op = c.domain.ensures ∙ domain_is c.args.case.now slots.Op ∙ ap (λ (ds : List (List ℕ)). domain_in ds slots.Op) (sym c.in_ok-doms.ensures) in
    subst (λ (xs : List ℕ). is_in xs c.from-op.result ≡ true) same (sym c.if-not-has.ensures.test)

pub returns : goal.returns
returns c = least_made c.args.case.now c.in_ok-doms.doms c.in_ok-doms.ensures c.from-op.result c.from-op.ensures c.in_ok-doms-2.doms c.in_ok-doms-2.ensures c.args.pivots.now c.in_ok-least.least c.in_ok-least.ensures
